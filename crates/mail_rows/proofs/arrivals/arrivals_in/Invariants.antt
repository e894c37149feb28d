use Rattle.std.proofs.Common.{◌≡◌, ◌++◌, drop}
use Rattle.mail_rows.specs.reading.RowPass.{unmarked}
use Rattle.mail_rows.proofs.arrivals.arrivals_in.Given as goal

abbrev pub invariant-loop-held : goal.invariant-loop-held
invariant-loop-held l = l.arrivals.items ++ unmarked l.marks (drop l.held-index l.folders) ≡ unmarked l.marks l.folders
