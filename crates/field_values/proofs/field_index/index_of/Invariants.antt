use Rattle.std.proofs.Common.{take}
use Rattle.mail_header.specs.Fields.{names_and_raws}
use Rattle.field_values.specs.reading.FieldIndex.{IsIndexOf}
use Rattle.field_values.proofs.field_index.index_of.Given as goal

abbrev pub invariant-loop-at : goal.invariant-loop-at
invariant-loop-at l = IsIndexOf l.index (take l.at (names_and_raws l.fields))
