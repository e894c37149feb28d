-- How the code makes lists of addresses and groups of the elements.
use Rattle.std.specs.Prelude.{◌≡◌, ℕ, Bool, true, false, ◌&&◌, List, [], ◌∷◌, ◌++◌, Option, Some, None}
use Rattle.std.specs.List.{AllZip, list_any}
use Rattle.text_words.specs.Sequence.{Sequence}
use Rattle.header_addresses.specs.declared.address.Address.{Address}
use Rattle.header_addresses.specs.declared.address.Group.{Group}
use Rattle.header_addresses.specs.declared.address_lists.Builder.{Builder}
use Rattle.header_tokens.specs.Tokens.{Spelled}
use Rattle.header_words.specs.EncodedWords.{IsText}
use Rattle.header_addresses.specs.Mailboxes.{is_phrase, Mailbox}
use Rattle.header_addresses.specs.AddressLists.{Element, IsElement, Grouped, One, AreAddressees}
use Rattle.header_addresses.specs.Names.{phrase_text, IsAddress, IsGroupName, IsGroup}
use Rattle.header_addresses.specs.reading.ElementReading.{are_nested, is_addressee, grouped_from, AreFilled}

-- The builder has these groups, and the open one has this phrase and these mailboxes.
pub record Has (b : Builder) (done : List Grouped) (phrase : Option (List Spelled)) (ms : List Mailbox) : Type 0 where
  pub groups : AllZip IsGroup done b.groups.items
  pub name : IsGroupName phrase b.name
  pub members : AllZip IsAddress ms b.members.items

-- with the elements es, the groups will be `all`
pub record Builds (b : Builder) (es : List Element) (all : List Grouped) : Type 0 where
  pub done : List Grouped
  pub phrase : Option (List Spelled)
  pub ms : List Mailbox
  pub has : Has b done phrase ms
  pub all_is : done ++ grouped_from phrase ms es ≡ all

abbrev pub TakesElement : Builder → Element → Builder → Type 0
TakesElement old e new = (es : List Element) (all : List Grouped) → Builds old (e ∷ es) all → Builds new es all

-- the group of a name and members; members without a name are a run of mailboxes outside a group
abbrev pub group_from : Option (List ℕ) → List Address → Option Group
group_from None [] = None
group_from None (a ∷ members) = Some (record { name = None; members = a ∷ members })
group_from (Some name) members = Some (record { name = Some name; members = members })

abbrev pub are_list : List Element → Bool
are_list es = are_nested false es && list_any is_addressee es

-- the elements of the tokens without the empty places, where they are a list of addresses
pub record IsList (kept : List Element) (ts : List Spelled) : Type 0 where
  pub filled : AreFilled kept ts
  pub list : are_list kept ≡ true

abbrev pub IsNoList : List Spelled → Type 0
IsNoList ts = (es : List Element) → Sequence IsElement es ts → are_list es ≡ true → ⊥

pub data GroupsIn (ts : List Spelled) : Option (List Group) → Type 0 where
  NoGroups : IsNoList ts → GroupsIn ts None
  Groups : (es : List Element) (list : List Group) → IsList es ts → AllZip IsGroup (grouped_from None [] es) list → GroupsIn ts (Some list)

-- the address that tokens are by themselves
pub data OneIn (ts : List Spelled) : Option Address → Type 0 where
  NotOne : ((es : List Element) (m : Mailbox) → Sequence IsElement es ts → AreAddressees (One m ∷ []) es → ⊥) → OneIn ts None
  IsOne : (es : List Element) (m : Mailbox) (a : Address) → Sequence IsElement es ts → AreAddressees (One m ∷ []) es → IsAddress m a → OneIn ts (Some a)

-- the name of tokens that are a phrase
pub data NameIn (ts : List Spelled) : Option (List ℕ) → Type 0 where
  NotPhrase : is_phrase ts ≡ false → NameIn ts None
  IsPhrase : (name : List ℕ) → is_phrase ts ≡ true → IsText false (phrase_text ts) name → NameIn ts (Some name)
