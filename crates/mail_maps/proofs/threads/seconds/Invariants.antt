use Rattle.std.proofs.Common.{◌≡◌, ℕ, ℤ, map, ◌++◌}
use Rattle.mail_maps.proofs.threads.seconds.Given as goal

abbrev pub invariant-loop-pair : goal.invariant-loop-pair
invariant-loop-pair l = l.numbers.items ++ map {A = ℤ × ℕ} {B = ℕ} (λ p. p.1) l.pair-iterator ≡ map {A = ℤ × ℕ} {B = ℕ} (λ p. p.1) l.group.keys
