-- How groups are built, and what the forms of a raw value are.
use Rattle.std.proofs.Common.{◌≡◌, ◌∙◌, ℕ, Bool, true, false, not, ◌&&◌, ◌||◌, refl, List, [], ◌∷◌, ◌++◌, sym, ap, subst, Option, Some, None, MatchOption, IfNone, option_to_list}
use Rattle.std.specs.List.{AllZip, filter, list_any}
use Rattle.header_addresses.specs.declared.address.Address.{Address}
use Rattle.header_addresses.specs.declared.address.Group.{Group}
use Rattle.header_addresses.specs.declared.address_lists.Builder.{Builder}
use Rattle.mail_header.specs.RawForms.{raw_form}
use Rattle.header_tokens.specs.declared.token.Alphabet.TheVariants as alphabet
use Rattle.header_tokens.specs.Tokens.{Spelled, AreTokens}
use Rattle.header_addresses.specs.Mailboxes.{Mailbox}
use Rattle.header_addresses.specs.AddressLists.{Element, Empty, Head, End, Member, Grouped, groups_from}
use Rattle.header_addresses.specs.Names.{IsAddress, IsGroupName, NoName, Named, IsGroup, HasNoAddressList, IsGroupsForm}
use Rattle.header_addresses.specs.Names as names
use Rattle.header_addresses.specs.reading.ElementReading.{group_closed, are_nested, is_addressee, is_filled, grouped_from, AreFilled}
use Rattle.header_addresses.specs.reading.GroupBuilding.{Has, group_from, are_list, IsList, IsNoList, GroupsIn, NoGroups, Groups}
use Rattle.header_addresses.proofs.AddresseeLemmas.{is_listed, groups_are, listed, one_elements, elements_here}

-- where two lists match element by element, and two others do, the first two with the others after them match, too
pub zip_append : {A B : Type 0} (R : A → B → Type 0) (xs us : List A) (ys vs : List B) → AllZip R xs ys → AllZip R us vs → AllZip R (xs ++ us) (ys ++ vs)
zip_append R [] us [] vs h k = k
zip_append R [] us (y ∷ ys) vs h k = absurd h
zip_append R (x ∷ xs) us [] vs h k = absurd h
zip_append R (x ∷ xs) us (y ∷ ys) vs h k = (h.0, zip_append R xs us ys vs h.1 k)

closed_group : (phrase : Option (List Spelled)) (ms : List Mailbox) (name : Option (List ℕ)) (members : List Address) → IsGroupName phrase name → AllZip IsAddress ms members
    → AllZip IsGroup (group_closed phrase ms) (option_to_list (group_from name members))
closed_group _ [] _ [] NoName h = tt
closed_group _ [] _ (a ∷ members) NoName h = absurd h
closed_group _ (m ∷ ms) _ [] NoName h = absurd h
closed_group _ (m ∷ ms) _ (a ∷ members) NoName h = (record { name = NoName; members = h }, tt)
closed_group _ ms _ members (Named phrase name t) h = (record { name = Named phrase name t; members = h }, tt)

-- the groups with the one that was open
pub closes : (b : Builder) (done : List Grouped) (phrase : Option (List Spelled)) (ms : List Mailbox) (v : List Group) → Has b done phrase ms
    → v ≡ b.groups.items ++ option_to_list (group_from b.name b.members.items) → AllZip IsGroup (done ++ group_closed phrase ms) v
closes b done phrase ms v h e = subst (λ (u : List Group). AllZip IsGroup (done ++ group_closed phrase ms) u) (sym e)
    (zip_append IsGroup done (group_closed phrase ms) b.groups.items
    (option_to_list (group_from b.name b.members.items)) h.groups (closed_group phrase ms b.name b.members.items h.name h.members))

-- an empty list of addresses is the addresses of no mailboxes
pub no_members : (v : List Address) → v ≡ [] → AllZip IsAddress [] v
no_members v e = subst (λ (u : List Address). AllZip IsAddress [] u) (sym e) tt

-- an empty list of groups is what no groups of a value come to
pub no_groups : (v : List Group) → v ≡ [] → AllZip IsGroup [] v
no_groups v e = subst (λ (u : List Group). AllZip IsGroup [] u) (sym e) tt

-- with one mailbox more, its address stands after the addresses of the others
pub one_member_more : (ms : List Mailbox) (m : Mailbox) (old new : List Address) (a : Address) → AllZip IsAddress ms old → IsAddress m a → new ≡ old ++ a ∷ []
    → AllZip IsAddress (ms ++ m ∷ []) new
one_member_more ms m old new a h k e = subst (λ (u : List Address). AllZip IsAddress (ms ++ m ∷ []) u) (sym e) (zip_append IsAddress ms (m ∷ []) old (a ∷ []) h (k, tt))

-- ---- the forms

-- empty places change no list
nested_filled : (inside : Bool) (es : List Element) → are_nested inside (filter is_filled es) ≡ are_nested inside es
nested_filled inside [] = refl
nested_filled inside (Empty ∷ es) = nested_filled inside es
nested_filled inside (Head phrase ∷ es) = ap (λ (q : Bool). not inside && q) (nested_filled true es)
nested_filled inside (End ∷ es) = ap (λ (q : Bool). inside && q) (nested_filled false es)
nested_filled inside (Member m ∷ es) = nested_filled inside es

addressee_filled : (es : List Element) → list_any is_addressee (filter is_filled es) ≡ list_any is_addressee es
addressee_filled [] = refl
addressee_filled (Empty ∷ es) = addressee_filled es
addressee_filled (Head phrase ∷ es) = ap (λ (q : Bool). true || q) (addressee_filled es)
addressee_filled (End ∷ es) = addressee_filled es
addressee_filled (Member m ∷ es) = ap (λ (q : Bool). true || q) (addressee_filled es)

list_filled : (es : List Element) → are_list (filter is_filled es) ≡ are_list es
list_filled es = ap (λ (q : Bool). q && list_any is_addressee (filter is_filled es)) (nested_filled false es) ∙ ap (λ (q : Bool). are_nested false es && q) (addressee_filled es)

grouped_filled : (phrase : Option (List Spelled)) (ms : List Mailbox) (es : List Element) → grouped_from phrase ms (filter is_filled es) ≡ grouped_from phrase ms es
grouped_filled phrase ms [] = refl
grouped_filled phrase ms (Empty ∷ es) = grouped_filled phrase ms es
grouped_filled phrase ms (Head next ∷ es) = ap (λ (u : List Grouped). group_closed phrase ms ++ u) (grouped_filled (Some next) [] es)
grouped_filled phrase ms (End ∷ es) = ap (λ (u : List Grouped). group_closed phrase ms ++ u) (grouped_filled None [] es)
grouped_filled phrase ms (Member m ∷ es) = grouped_filled phrase (ms ++ m ∷ []) es

-- where the check of the elements, without the empty places, gives nothing, the tokens are no list of addresses
pub none_checked : {X : Type 0} (r : Option X) (Q : X → Type 0) (kept : List Element) (ts : List Spelled) → AreFilled kept ts → MatchOption r (are_list kept ≡ false) Q
    → IfNone r (IsNoList ts)
none_checked (Some x) Q kept ts s h = tt
none_checked None Q kept ts s h = λ fs t l. let e = ap are_list (one_elements fs s.all ts t s.are) ∙ sym (list_filled s.all) ∙ ap are_list (sym s.kept_is) in absurd cc

no_list : (raw : List ℕ) (ts : List Spelled) → AreTokens alphabet.Mail ts (raw_form raw) → IsNoList ts → HasNoAddressList raw
no_list raw ts a n = λ who l. n l.elements (elements_here who (raw_form raw) ts l a) (is_listed who l.elements l.are_addressees l.some)

-- a raw value that is no row of tokens has no list of addresses
pub no_tokens : (raw : List ℕ) → ((ts : List Spelled) → AreTokens alphabet.Mail ts (raw_form raw) → ⊥) → HasNoAddressList raw
no_tokens raw n = λ who l. n l.tokens l.are_tokens

all_list : (kept : List Element) (ts : List Spelled) (l : IsList kept ts) → are_list l.filled.all ≡ true
all_list kept ts l = sym (list_filled l.filled.all) ∙ ap are_list (sym l.filled.kept_is) ∙ l.list

-- what is read of the tokens of a raw value, groups or none, is its form as groups
pub groups_form : (raw : List ℕ) (ts : List Spelled) (r : Option (List Group)) → AreTokens alphabet.Mail ts (raw_form raw) → GroupsIn ts r → IsGroupsForm raw r
groups_form raw ts _ a (NoGroups n) = names.NoGroups (no_list raw ts a n)
groups_form raw ts _ a (Groups kept list l h) =
    let all = l.filled.all in
    let w = listed all (all_list kept ts l) in
    let g : grouped_from None [] kept ≡ groups_from [] w.who = ap (grouped_from None []) l.filled.kept_is ∙ grouped_filled None [] all
    ∙ sym (groups_are w.who all w.addressees []) in
    names.Groups w.who list (record { tokens = ts; are_tokens = a; elements = all; are_elements = l.filled.are; are_addressees = w.addressees; some = w.some }) (subst
    (λ (u : List Grouped). AllZip IsGroup u list) g h)
