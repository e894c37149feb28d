use Rattle.std.proofs.Common.{length}
use Rattle.mail_batches.specs.reading.Stepping.{ReadSoFar}
use Rattle.mail_batches.specs.Stored.{tables_of}
use Rattle.mail_batches.proofs.batch_reading.read_items.Given as goal

abbrev pub invariant-loop-rest : goal.invariant-loop-rest
invariant-loop-rest l = ReadSoFar (tables_of l.initial.tables) l.octets l.last (tables_of l.tables) l.rest

abbrev pub decreases-loop-rest : goal.decreases-loop-rest
decreases-loop-rest l = length l.rest
