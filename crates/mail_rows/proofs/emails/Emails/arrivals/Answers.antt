use Rattle.std.proofs.Common.{◌∙◌, ap}
use Rattle.mail_rows.specs.NumberedRows.{NumberedRows}
use Rattle.mail_rows.specs.Taking.{newcomers}
use Rattle.mail_rows.specs.reading.RowPass.{unmarked}
use Rattle.mail_rows.proofs.TakingLemmas.{unmarked_are}
use Rattle.mail_rows.proofs.emails.Emails.arrivals.Goals as goal

pub returns : goal.returns
returns c =
    let hs = c.args.mirror.now.mail.folders in
    c.in_ok-arrivals.ensures ∙ ap (unmarked c.self.inside.marks) c.folders.ensures
    ∙ unmarked_are c.self.inside.marks c.self.inside.rows.entries c.self.invariant.marks_are hs
    ∙ ap (λ (n : NumberedRows). newcomers hs n.rows) c.self.view_is
