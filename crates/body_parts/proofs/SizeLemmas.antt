-- The parts in a part are smaller than it.
use Rattle.std.proofs.Common.{ℕ, ◌<◌, ◌≤◌, List, length, get_or, arith}
use denote.Param.Weighed.{most, at_most}
use Rattle.mime_tree.specs.declared.part.Part.{Part, the_lemmas}
use Rattle.mime_tree.specs.Parts.{children}
use Rattle.mime_tree.proofs.part.Part.TheLaws.{the_size}

pub children_smaller : (p : Part) → most the_size (children p) < the_size p
children_smaller p = grind (arith, the_lemmas)

-- no part of a list is greater than the greatest
pub part_no_greater : (ps : List Part) (i : ℕ) (d : Part) → i < length ps → the_size (get_or ps i d) ≤ most the_size ps
part_no_greater ps i d lt = at_most the_size ps i d lt
