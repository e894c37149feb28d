use Rattle.std.proofs.Common.{Bool, not, ◌&&◌, ◌||◌, ◌==◌, nat_cmp, ap, ◌∙◌}
use Rattle.std.specs.BTreeSet.{contains}
use Rattle.mail_maps.proofs.FrontLemmas.{noted_more}
use Rattle.query_conditions.specs.Entries.{email_at}
use Rattle.query_conditions.specs.ThreadKeywords.{lacks_in_thread}
use Rattle.query_conditions.proofs.threads.threads_lacking.Goals as goal

pub loop-email-preserved : goal.loop-email-preserved
loop-email-preserved c = λ t.
    noted_more (λ e. lacks_in_thread c.args.keyword.now t (email_at e)) c.args.emails.now c.loop-email.email-index c.email-item.result _ _ _
    c.loop-email-test.true c.email-item.is
    (c.in_ok-note.ensures t
    ∙ ap (λ (b : Bool). contains nat_cmp c.loop-email.set t || ((c.email-item.result.row.now.thread == t) && not b)) c.has_name.ensures)
    (c.loop-email.invariant t)
