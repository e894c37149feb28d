use Rattle.std.proofs.Common.{◌≡◌, map, take}
use Rattle.imap_types.specs.Octets as classes
use Rattle.kept_names.proofs.names.lowered.Given as goal

abbrev pub invariant-loop-c : goal.invariant-loop-c
invariant-loop-c l = l.out.items ≡ map classes.lower (take l.c-index l.name)
