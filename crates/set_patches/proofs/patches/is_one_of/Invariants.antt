use Rattle.std.proofs.Common.{◌≡◌, drop, map}
use Rattle.jmap_arguments.specs.Arguments.{is_among}
use Rattle.set_patches.proofs.patches.is_one_of.Given as goal

abbrev pub invariant-loop-other : goal.invariant-loop-other
invariant-loop-other l = is_among l.property (map (λ t. t.now) l.properties) ≡ is_among l.property (map (λ t. t.now) (drop l.other-index l.properties))
