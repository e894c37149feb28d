use Rattle.std.proofs.Common.{take}
use Rattle.serde_json.specs.View.{members_view}
use Rattle.body_parts.specs.BodyValues.{PutsValue}
use Rattle.body_parts.specs.Steps.{InTurn}
use Rattle.body_parts.specs.reading.Fetching.{has_value_in}
use Rattle.body_parts.specs.reading.LeafLists.{parts_of}
use Rattle.body_parts.specs.reading.StepsIf.{StepIf}
use Rattle.body_parts.proofs.body_values.put_values.Given as goal

abbrev pub invariant-loop-part : goal.invariant-loop-part
invariant-loop-part l =
    InTurn (StepIf (has_value_in l.fetched) (PutsValue l.most l.octets)) (take l.part-index (parts_of l.leaves)) (members_view l.fn.values.entries) (members_view l.values.entries)
