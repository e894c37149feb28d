use Rattle.std.proofs.Common.{◌≡◌, ℕ, drop, eqb}
use Rattle.std.specs.List.{list_any}
use Rattle.header_words.proofs.one_line.has_line_end.Given as goal

abbrev pub invariant-loop-octet : goal.invariant-loop-octet
invariant-loop-octet l = list_any (λ (c : ℕ). eqb c 10) (drop l.octet-index l.white) ≡ list_any (λ (c : ℕ). eqb c 10) l.white
