use Rattle.std.proofs.Common.{◌+◌, ◌<◌, ◌^◌, length}
use Rattle.std.specs.Vec.Iter.{into_iter_items}
use Rattle.mail_rows.specs.NumberedRows.{NumberedRows}
use Rattle.mail_rows.specs.reading.Indexes.{AddsRows}
use Rattle.mail_rows.proofs.emails.Emails.with_arrivals.Given as goal

abbrev pub invariant-loop-arrival : goal.invariant-loop-arrival
invariant-loop-arrival l = record {
  room : l.emails.next + length (into_iter_items l.arrival-iterator) < 2 ^ 64;
  adds : (after : NumberedRows) → AddsRows l.emails (into_iter_items l.arrival-iterator) after → AddsRows l.fn.self l.fn.arrivals.items after;
}
