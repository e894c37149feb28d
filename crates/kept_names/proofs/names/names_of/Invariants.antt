use Rattle.std.proofs.Common.{◌≡◌, map}
use Rattle.kept_names.proofs.names.names_of.Given as goal

abbrev pub invariant-loop-name : goal.invariant-loop-name
invariant-loop-name l = l.names ≡ map (λ v. v.items) l.yielded
