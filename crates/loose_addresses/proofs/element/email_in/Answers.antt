use Rattle.std.proofs.Common.{ℕ, List, Option, Some, None, sym, ◌∙◌, subst}
use Rattle.std.proofs.lemmas.Result.{IfOk-weaker}
use Rattle.header_addresses.specs.declared.address.Address.{Address}
use Rattle.header_addresses.proofs.PartLemmas.{OneTold}
use Rattle.loose_addresses.specs.LooseLists.{IsEmailIn, OneInside, AsWritten}
use Rattle.loose_addresses.proofs.element.email_in.Goals as goal

pub returns-in-Some : goal.returns-in-Some
returns-in-Some c =
    let o = subst (λ (u : Option Address). OneTold c.as_slice.result.now u) c.in-Some.is c.in_ok-address.ensures in
    OneInside c.in-Some.address (subst (λ (u : List ℕ). OneTold u (Some c.in-Some.address)) (c.as_slice.ensures.value ∙ c.in_ok-whole.ensures) o)

pub returns : goal.returns
returns c =
    let o = subst (λ (u : Option Address). OneTold c.as_slice.result.now u) c.in-None.is c.in_ok-address.ensures in
    let n = subst (λ (u : List ℕ). OneTold u None) (c.as_slice.ensures.value ∙ c.in_ok-whole.ensures) o in
    IfOk-weaker c.as_written.result _ _ (λ b e. subst (λ (u : List ℕ). IsEmailIn c.args.text.now u) (sym e) (AsWritten n)) c.as_written.ensures
