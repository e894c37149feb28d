use Rattle.std.proofs.Common.{drop}
use Rattle.mime_tree.specs.reading.ListBuilding.{grown}
use Rattle.mime_tree.proofs.ListWalkLemmas.{SoFar}
use Rattle.mime_tree.proofs.list_walk.+walk.Given as goal

abbrev pub invariant-walk_parts-loop-part : goal.invariant-walk_parts-loop-part
invariant-walk_parts-loop-part l = SoFar l.fn.walk l.walk l.parts (drop l.part-index l.parts) (grown l.fn.lists) (grown l.lists)
