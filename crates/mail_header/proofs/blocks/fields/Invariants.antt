use Rattle.std.proofs.Common.{length}
use Rattle.mail_header.specs.Fields.{fields_view}
use Rattle.mail_header.proofs.FieldLemmas.{Walked}
use Rattle.mail_header.proofs.blocks.fields.Given as goal

abbrev pub invariant-loop-block : goal.invariant-loop-block
invariant-loop-block l = Walked (fields_view l.list.items) l.rest l.bytes

abbrev pub decreases-loop-block : goal.decreases-loop-block
decreases-loop-block l = length l.rest
