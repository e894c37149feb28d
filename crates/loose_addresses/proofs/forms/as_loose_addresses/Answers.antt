use Rattle.std.proofs.Common.{ℕ, List, Option, Some, MatchOption, sym, ◌∙◌, subst}
use Rattle.mail_header.specs.RawForms.{raw_form}
use Rattle.header_addresses.specs.declared.address.Address.{Address}
use Rattle.header_addresses.specs.Names.{IsAddressesForm}
use Rattle.loose_addresses.specs.LooseForms.{IsNoList, IsLooseAddressesForm, ByGrammar, AsFar}
use Rattle.loose_addresses.specs.LooseLists.{AreLoose}
use Rattle.loose_addresses.specs.Torn.{IsUntorn}
use Rattle.loose_addresses.proofs.forms.as_loose_addresses.Goals as goal

Told : List ℕ → Option (List Address) → Type 0
Told raw r = MatchOption r (IsNoList raw) (λ (list : List Address). IsAddressesForm raw (Some list) × IsUntorn (raw_form raw))

pub whole_addresses-requires : goal.whole_addresses-requires
whole_addresses-requires c = c.as_slice.ensures ∙ c.in_ok-text.ensures

pub returns-in-Some : goal.returns-in-Some
unfolding Told
returns-in-Some c =
    let h = subst (λ (u : Option (List Address)). Told c.args.raw.now u) c.in-Some.is c.in_ok-list.ensures in
    ByGrammar c.in-Some.list h.0 h.1

pub returns : goal.returns
unfolding Told
returns c =
    let all = c.in_ok-addresses_in-in-None.field-0.items in
    let n = subst (λ (u : Option (List Address)). Told c.args.raw.now u) c.in-None.is c.in_ok-list.ensures in
    let a = subst (λ (u : List ℕ). AreLoose all u) (c.as_slice-in-None.ensures ∙ c.in_ok-text.ensures) c.in_ok-addresses_in-in-None.ensures in
    subst (λ (u : Option (List Address)). IsLooseAddressesForm c.args.raw.now u) (sym c.some_list.ensures) (AsFar n all a)
