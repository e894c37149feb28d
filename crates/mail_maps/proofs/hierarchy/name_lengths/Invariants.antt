use Rattle.std.proofs.Common.{◌≡◌, ℕ, nat_cmp, drop, ◌||◌}
use Rattle.std.specs.BTreeSet.{contains}
use Rattle.std.specs.List.{list_any}
use Rattle.mail_maps.specs.reading.Fronts.{has_length}
use Rattle.mail_maps.proofs.hierarchy.name_lengths.Given as goal

abbrev pub invariant-loop-held : goal.invariant-loop-held
invariant-loop-held l =
    (q : ℕ) → contains nat_cmp l.lengths q || list_any (has_length q) (drop l.held-index l.folders) ≡ list_any (has_length q) l.folders
