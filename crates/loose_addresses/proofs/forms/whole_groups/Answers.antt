use Rattle.std.proofs.Common.{ℕ, List, Option, Some, None, MatchOption, inl, inr, subst}
use Rattle.std.proofs.lemmas.Result.{IfOk-weaker}
use Rattle.mail_header.specs.RawForms.{raw_form}
use Rattle.header_addresses.specs.declared.address.Group.{Group}
use Rattle.header_addresses.specs.Names.{IsGroupsForm}
use Rattle.loose_addresses.specs.LooseForms.{IsNoList}
use Rattle.loose_addresses.specs.Torn.{IsTorn, IsUntorn}
use Rattle.loose_addresses.proofs.TornLemmas.{torn_there, torn_nowhere}
use Rattle.loose_addresses.proofs.forms.whole_groups.Goals as goal

told : (raw : List ℕ) (r : Option (List Group)) → IsUntorn (raw_form raw) → IsGroupsForm raw r
    → MatchOption r (IsNoList raw) (λ (list : List Group). IsGroupsForm raw (Some list) × IsUntorn (raw_form raw))
told raw None u n = inl n
told raw (Some list) u h = (h, u)

pub returns-then-branch : goal.returns-then-branch
returns-then-branch c = inr (subst (λ (u : List ℕ). IsTorn u) c.requires (torn_there c.in_ok-is_torn.field-0 c.args.text.now c.in_ok-is_torn.ensures c.if-branch.true))

pub returns : goal.returns
returns c =
    let u = subst (λ (t : List ℕ). IsUntorn t) c.requires (torn_nowhere c.in_ok-is_torn.field-0 c.args.text.now c.in_ok-is_torn.ensures c.if-branch.false) in
    IfOk-weaker c.as_groups.result _ _ (λ r h. told c.args.raw.now r u h) c.as_groups.ensures
