use Rattle.std.proofs.Common.{◌≡◌, ◌++◌, drop, map}
use Rattle.query_orders.specs.reading.Rows.{grouped_entry}
use Rattle.query_orders.proofs.emails.in_threads.Given as goal

-- those so far, and those of the rest
abbrev pub invariant-loop-row : goal.invariant-loop-row
invariant-loop-row l = l.grouped.items ++ map grouped_entry (drop l.row-index l.rows) ≡ map grouped_entry l.rows
