use Rattle.std.proofs.Common.{ℕ, List, Option, MatchOption, subst}
use Rattle.std.proofs.lemmas.Result.{IfOk-weaker}
use Rattle.header_addresses.specs.declared.address.Address.{Address}
use Rattle.header_addresses.specs.Parts.{IsOneAddress}
use Rattle.loose_addresses.specs.LooseLists.{NotStrict, Strict}
use Rattle.loose_addresses.specs.Torn.{IsUntorn}
use Rattle.loose_addresses.proofs.element.read_behind.Goals as goal

Told : List ℕ → Option Address → Type 0
Told t r = MatchOption r (NotStrict t) (λ (a : Address). IsOneAddress a t × IsUntorn t)

pub returns-in-Some : goal.returns-in-Some
unfolding Told
returns-in-Some c =
    let h = subst (λ (u : Option Address). Told c.args.text.now u) c.in-Some.is c.in_ok-address.ensures in
    Strict c.in-Some.address h.0 h.1

pub returns-in-None : goal.returns-in-None
unfolding Told
returns-in-None c =
    let n = subst (λ (u : Option Address). Told c.args.text.now u) c.in-None.is c.in_ok-address.ensures in
    IfOk-weaker c.read_loosely.result _ _ (λ r h. h n) c.read_loosely.ensures
