use Rattle.std.proofs.Common.{◌≡◌, ◌++◌, bytes_eq, drop, filter, not}
use Rattle.std.specs.List.{list_any}
use Rattle.kept_names.proofs.names.without.Given as goal

abbrev pub invariant-loop-name : goal.invariant-loop-name
invariant-loop-name l =
    l.left ++ filter (λ f. not (list_any (λ g. bytes_eq f g) l.fn.those)) (drop l.name-index l.names) ≡ filter (λ f. not (list_any (λ g. bytes_eq f g) l.fn.those)) l.names
