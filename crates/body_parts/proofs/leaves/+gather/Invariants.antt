use Rattle.std.proofs.Common.{take}
use Rattle.body_parts.specs.reading.LeafLists.{parts_of, Gathers}
use Rattle.body_parts.proofs.leaves.+gather.Given as goal

abbrev pub invariant-gather-loop-part : goal.invariant-gather-loop-part
invariant-gather-loop-part l = Gathers (take l.part-index l.parts) (parts_of l.fn.leaves.items) (parts_of l.leaves.items)
