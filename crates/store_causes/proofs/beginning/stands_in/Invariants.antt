use Rattle.std.proofs.Common.{◌≡◌, ◌-◌, ℕ, drop, nat_eq}
use Rattle.std.specs.List.{list_any, range_with_len, starts_with}
use Rattle.store_causes.proofs.beginning.stands_in.Given as goal

-- the answer for all places is that for those that are left
abbrev pub invariant-loop-at : goal.invariant-loop-at
invariant-loop-at l =
    list_any (λ (at : ℕ). starts_with nat_eq (drop at l.octets) l.word) (range_with_len 0 l.count)
    ≡ list_any (λ (at : ℕ). starts_with nat_eq (drop at l.octets) l.word) (range_with_len l.at (l.count - l.at))
