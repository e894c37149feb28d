use Rattle.std.proofs.Common.{ℕ, List, Bor, Option, MatchOption, subst}
use Rattle.std.proofs.lemmas.Result.{IfOk-weaker}
use Rattle.loose_addresses.specs.LooseLists.{BeginsGroup, Dropped, NoHead}
use Rattle.loose_addresses.proofs.element.read_element.Goals as goal

pub returns-in-None : goal.returns-in-None
returns-in-None c =
    let t = c.args.element.now in
    let P : Option (Bor (List ℕ)) → Type 0 = λ u. MatchOption u ((rest : List ℕ) → BeginsGroup rest t → ⊥) (λ (r : Bor (List ℕ)). BeginsGroup r.now t) in
    let n = subst P c.in-None.is c.in_ok-behind_group.ensures in
    IfOk-weaker c.read_behind.result _ _ (λ r h. record { rest = t; behind = NoHead t n; reads = h }) c.read_behind.ensures

pub returns-in-Some : goal.returns-in-Some
returns-in-Some c =
    let t = c.args.element.now in
    let P : Option (Bor (List ℕ)) → Type 0 = λ u. MatchOption u ((rest : List ℕ) → BeginsGroup rest t → ⊥) (λ (r : Bor (List ℕ)). BeginsGroup r.now t) in
    let g = subst P c.in-Some.is c.in_ok-behind_group.ensures in
    IfOk-weaker c.read_behind-in-Some.result _ _ (λ r h. record { rest = c.in-Some.rest.now; behind = Dropped c.in-Some.rest.now t g; reads = h })
    c.read_behind-in-Some.ensures
