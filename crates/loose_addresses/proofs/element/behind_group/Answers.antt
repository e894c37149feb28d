use Rattle.std.proofs.Common.{ℕ, List, Bor, Option, MatchOption, subst}
use Rattle.std.proofs.lemmas.Result.{IfOk-weaker}
use Rattle.header_addresses.specs.Parts.{HasHead}
use Rattle.loose_addresses.proofs.OutsideLemmas.{group_other}
use Rattle.loose_addresses.proofs.element.behind_group.Goals as goal

pub behind_whole-requires : goal.behind_whole-requires
behind_whole-requires c =
    let t = c.args.element.now in
    let P : Option (Bor (List ℕ)) → Type 0 = λ u. MatchOption u ((rest : List ℕ) → HasHead rest t → ⊥) (λ (r : Bor (List ℕ)). HasHead r.now t) in
    subst P c.in-Some.is c.in_ok-behind_head.ensures

pub returns-in-None : goal.returns-in-None
returns-in-None c =
    let t = c.args.element.now in
    let P : Option (Bor (List ℕ)) → Type 0 = λ u. MatchOption u ((rest : List ℕ) → HasHead rest t → ⊥) (λ (r : Bor (List ℕ)). HasHead r.now t) in
    let n = subst P c.in-None.is c.in_ok-behind_head.ensures in
    λ rest g. n rest g.head

pub returns-in-Some : goal.returns-in-Some
returns-in-Some c =
    let t = c.args.element.now in
    let P : Option (Bor (List ℕ)) → Type 0 = λ u. MatchOption u ((rest : List ℕ) → HasHead rest t → ⊥) (λ (r : Bor (List ℕ)). HasHead r.now t) in
    let h = subst P c.in-Some.is c.in_ok-behind_head.ensures in
    IfOk-weaker c.behind_whole.result _ _ (λ r m. group_other c.in-Some.rest.now t r h m) c.behind_whole.ensures
