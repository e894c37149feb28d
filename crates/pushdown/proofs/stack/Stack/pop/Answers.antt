use Rattle.std.proofs.Common.{◌≡◌, ℕ, zero, suc, ◌<◌, refl, arith}
use Rattle.pushdown.proofs.StackLemmas.{popped}
use Rattle.pushdown.proofs.stack.Stack.pop.Goals as goal

pub returns : goal.returns
returns g c =
    let s = c.args.self.now in
    popped s.count s.first s.second s.third s.fourth s.fifth (some s.count c.if-self-eq0.false) s.in_room
  where
    some : (n : ℕ) → (n ≡ 0 → ⊥) → 0 < n
    some zero ne = absurd (ne refl)
    some (suc n) ne = omega arith
