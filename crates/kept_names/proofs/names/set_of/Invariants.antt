use Rattle.std.proofs.Common.{◌≡◌, ℕ, List, bytes_eq, map, take}
use Rattle.std.specs.List.{list_any}
use Rattle.kept_names.proofs.names.set_of.Given as goal

abbrev pub invariant-loop-name : goal.invariant-loop-name
invariant-loop-name l = (n : List ℕ) → list_any (bytes_eq n) (map (λ v. v.items) l.set.keys) ≡ list_any (bytes_eq n) (take l.name-index l.names)
