use Rattle.std.proofs.Common.{◌≡◌, drop, map}
use Rattle.imap_types.specs.Items as items
use Rattle.kept_names.proofs.names.add_names.Given as goal

abbrev pub invariant-loop-name : goal.invariant-loop-name
invariant-loop-name l = items.kept_from (map (λ v. v.items) l.set.keys) (drop l.name-index l.names) ≡ items.kept_from (map (λ v. v.items) l.initial.set.keys) l.names
