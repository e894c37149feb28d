use Rattle.std.proofs.Common.{◌≡◌, drop, map}
use Rattle.jmap_arguments.specs.Arguments.{is_among}
use Rattle.jmap_arguments.proofs.arguments.is_among.Given as goal

abbrev pub invariant-loop-other : goal.invariant-loop-other
invariant-loop-other l = is_among l.name (map (λ t. t.now) l.other-items) ≡ is_among l.name (map (λ t. t.now) (drop l.other-index l.other-items))
