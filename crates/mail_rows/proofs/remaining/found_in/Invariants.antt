use Rattle.std.proofs.Common.{◌≡◌}
use Rattle.mail_rows.specs.reading.RowPass.{pass_of, gather_all, none_passed}
use Rattle.mail_rows.proofs.remaining.found_in.Given as goal

abbrev pub invariant-loop-number : goal.invariant-loop-number
invariant-loop-number l = gather_all l.mirror.mail.folders (pass_of l.found) l.number-iterator ≡ gather_all l.mirror.mail.folders none_passed l.rows.entries
