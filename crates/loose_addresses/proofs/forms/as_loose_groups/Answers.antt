use Rattle.std.proofs.Common.{ℕ, List, Option, Some, MatchOption, sym, ◌∙◌, subst}
use Rattle.std.proofs.lemmas.Result.{IfOk-weaker}
use Rattle.mail_header.specs.RawForms.{raw_form}
use Rattle.header_addresses.specs.declared.address.Group.{Group}
use Rattle.header_addresses.specs.Names.{IsGroupsForm}
use Rattle.loose_addresses.specs.LooseForms.{IsNoList, IsLooseGroupsForm, GroupsByGrammar, GroupsAsFar}
use Rattle.loose_addresses.specs.LooseLists.{AreLoose}
use Rattle.loose_addresses.specs.Torn.{IsUntorn}
use Rattle.loose_addresses.proofs.forms.as_loose_groups.Goals as goal

Told : List ℕ → Option (List Group) → Type 0
Told raw r = MatchOption r (IsNoList raw) (λ (list : List Group). IsGroupsForm raw (Some list) × IsUntorn (raw_form raw))

pub whole_groups-requires : goal.whole_groups-requires
whole_groups-requires c = c.as_slice.ensures ∙ c.in_ok-text.ensures

pub returns-in-Some : goal.returns-in-Some
unfolding Told
returns-in-Some c =
    let h = subst (λ (u : Option (List Group)). Told c.args.raw.now u) c.in-Some.is c.in_ok-list.ensures in
    GroupsByGrammar c.in-Some.list h.0 h.1

pub returns : goal.returns
unfolding Told
returns c =
    let all = c.in_ok-addresses_in-in-None.field-0.items in
    let n = subst (λ (u : Option (List Group)). Told c.args.raw.now u) c.in-None.is c.in_ok-list.ensures in
    let a = subst (λ (u : List ℕ). AreLoose all u) (c.as_slice-in-None.ensures ∙ c.in_ok-text.ensures) c.in_ok-addresses_in-in-None.ensures in
    IfOk-weaker c.one_group.result _ _ (λ r h. subst (λ (u : Option (List Group)). IsLooseGroupsForm c.args.raw.now u) (sym h) (GroupsAsFar n all a)) c.one_group.ensures
