-- The addresses and groups of a raw value, also where it is no list of them by the grammar (RFC 8621 sections 4.1.2.3 and
-- 4.1.2.4).
use Rattle.std.specs.Prelude.{◌⊎◌, ℕ, List, [], ◌∷◌, Option, Some, None}
use Rattle.mail_header.specs.RawForms.{raw_form}
use Rattle.header_addresses.specs.declared.address.Address.{Address}
use Rattle.header_addresses.specs.declared.address.Group.{Group}
use Rattle.header_addresses.specs.Names.{IsAddressesForm, IsGroupsForm}
use Rattle.loose_addresses.specs.LooseLists.{AreLoose}
use Rattle.loose_addresses.specs.Torn.{IsTorn, IsUntorn}

-- none where no address is left
abbrev pub some_list : List Address → Option (List Address)
some_list [] = None
some_list (a ∷ list) = Some (a ∷ list)

-- the value is no list by the grammar, or one that tears an encoded word
abbrev pub IsNoList : List ℕ → Type 0
IsNoList raw = IsAddressesForm raw None ⊎ IsTorn (raw_form raw)

-- the addresses are those of the grammar; where there are none, or it tears an encoded word, as far as they read
pub data IsLooseAddressesForm (raw : List ℕ) : Option (List Address) → Type 0 where
  ByGrammar : (list : List Address) → IsAddressesForm raw (Some list) → IsUntorn (raw_form raw) → IsLooseAddressesForm raw (Some list)
  AsFar : IsNoList raw → (list : List Address) → AreLoose list (raw_form raw) → IsLooseAddressesForm raw (some_list list)

-- they are one group without a name
abbrev pub one_group : List Address → Option (List Group)
one_group [] = None
one_group (a ∷ list) = Some (record { name = None; members = a ∷ list } ∷ [])

pub data IsLooseGroupsForm (raw : List ℕ) : Option (List Group) → Type 0 where
  GroupsByGrammar : (list : List Group) → IsGroupsForm raw (Some list) → IsUntorn (raw_form raw) → IsLooseGroupsForm raw (Some list)
  GroupsAsFar : IsNoList raw → (list : List Address) → AreLoose list (raw_form raw) → IsLooseGroupsForm raw (one_group list)
