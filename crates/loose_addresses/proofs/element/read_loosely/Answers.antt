use Rattle.std.proofs.Common.{ℕ, List, Bor, Option, MatchOption, subst}
use Rattle.std.proofs.lemmas.Result.{IfOk-weaker}
use Rattle.loose_addresses.specs.Angles.{IsAddressAngle}
use Rattle.loose_addresses.specs.LooseLists.{InAngle}
use Rattle.loose_addresses.proofs.element.read_loosely.Goals as goal

pub returns-in-None : goal.returns-in-None
returns-in-None c =
    let t = c.args.text.now in
    let P : Option (Bor (List ℕ) × Bor (List ℕ)) → Type 0 =
    λ u. MatchOption u ((before x : List ℕ) → IsAddressAngle before x t → ⊥) (λ (r : Bor (List ℕ) × Bor (List ℕ)). IsAddressAngle r.0.now r.1.now t) in
    let n = subst P c.in-None.is c.in_ok-address_angle.ensures in
    IfOk-weaker c.bare_address.result _ _ (λ r h m. h m n) c.bare_address.ensures

pub returns-in_ok-in_angle-in-Some : goal.returns-in_ok-in_angle-in-Some
returns-in_ok-in_angle-in-Some c = λ n.
    let t = c.args.text.now in
    let P : Option (Bor (List ℕ) × Bor (List ℕ)) → Type 0 =
    λ u. MatchOption u ((before x : List ℕ) → IsAddressAngle before x t → ⊥) (λ (r : Bor (List ℕ) × Bor (List ℕ)). IsAddressAngle r.0.now r.1.now t) in
    let h = subst P c.in-Some.is c.in_ok-address_angle.ensures in
    let a = c.in_ok-in_angle-in-Some.field-0 in
    let k = c.in_ok-in_angle-in-Some.ensures in
    InAngle c.in-Some.before.now c.in-Some.inner.now a.name a.email n h k.0 k.1
