use Rattle.std.proofs.Common.{◌≡◌, ◌++◌, ◌-◌, map}
use Rattle.mail_rows.specs.reading.RowPass.{touch_of_addition}
use Rattle.mail_rows.specs.reading.Indexes.{numbers_from}
use Rattle.mail_rows.proofs.touches.additions.Given as goal

abbrev pub invariant-loop-number : goal.invariant-loop-number
invariant-loop-number l = l.added.items ++ map touch_of_addition (numbers_from l.number (l.next - l.number)) ≡ map touch_of_addition (numbers_from l.first (l.next - l.first))
