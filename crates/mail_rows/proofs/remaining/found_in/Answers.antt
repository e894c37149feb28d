use Rattle.std.proofs.Common.{◌∙◌, ap}
use Rattle.mail_rows.specs.reading.RowPass.{PassSoFar, pass_of}
use Rattle.mail_rows.proofs.PassLemmas.{pass_more, pass_ended, all_gone, all_changed, all_updates}
use Rattle.mail_rows.proofs.remaining.found_in.Goals as goal

pub loop-number-preserved : goal.loop-number-preserved
loop-number-preserved c =
    pass_more c.args.mirror.now.mail.folders (pass_of c.loop-number.found) _ (c.in-Some.number.now, c.in-Some.row.now) _ _ _
    c.in-Some.ensures.steps c.in_ok-note_row.ensures c.loop-number.invariant

pub returns-clause-gone : goal.returns-clause-gone
returns-clause-gone c =
    ap (λ (g : PassSoFar). g.gone) (pass_ended c.args.mirror.now.mail.folders (pass_of c.loop-number.found) _ _ c.in-None.ensures.steps.0 c.loop-number.invariant)
    ∙ all_gone c.args.mirror.now.mail.folders c.args.rows.now.entries

pub returns-clause-changed : goal.returns-clause-changed
returns-clause-changed c =
    ap (λ (g : PassSoFar). g.changed) (pass_ended c.args.mirror.now.mail.folders (pass_of c.loop-number.found) _ _ c.in-None.ensures.steps.0 c.loop-number.invariant)
    ∙ all_changed c.args.mirror.now.mail.folders c.args.rows.now.entries

pub returns-clause-updates : goal.returns-clause-updates
returns-clause-updates c =
    ap (λ (g : PassSoFar). g.updates) (pass_ended c.args.mirror.now.mail.folders (pass_of c.loop-number.found) _ _ c.in-None.ensures.steps.0 c.loop-number.invariant)
    ∙ all_updates c.args.mirror.now.mail.folders c.args.rows.now.entries
