use Rattle.std.proofs.Common.{ℕ, List, subst, take_all}
use Rattle.mail_maps.specs.Serve.{Email}
use Rattle.query_conditions.specs.Entries.{email_at, emails_at}
use Rattle.query_conditions.specs.declared.entry.EmailEntry.{EmailEntry}
use Rattle.query_core.specs.Lists.{EmailMatches}
use Rattle.query_core.specs.reading.Kept.{Keeps}
use Rattle.query_core.proofs.KeptLemmas.{keeps_none, kept_next}
use Rattle.query_core.proofs.email_filter.matching.Goals as goal

pub loop-email-init : goal.loop-email-init
loop-email-init c = λ knows.
    keeps_none (λ (e : ℕ × Email). EmailMatches (emails_at c.args.emails.now) e.1 c.args.condition.now)
    (λ (e : EmailEntry). let p : ℕ × Email = (e.number, email_at e) in p) c.in_ok-kept.kept.items c.in_ok-kept.ensures.items

pub loop-email-preserved : goal.loop-email-preserved
loop-email-preserved c = λ knows.
    kept_next (λ (e : ℕ × Email). EmailMatches (emails_at c.args.emails.now) e.1 c.args.condition.now)
    (λ (e : EmailEntry). let p : ℕ × Email = (e.number, email_at e) in p) c.args.rows.now c.loop-email.email-index _ _ c.email-item.result _
    c.loop-email-test.true c.email-item.is (c.in_ok-holds.ensures knows) c.in_ok-keep_if.ensures (c.loop-email.invariant knows)

pub returns : goal.returns
returns c = λ knows.
    subst (λ (es : List EmailEntry). Keeps (λ (e : ℕ × Email). EmailMatches (emails_at c.args.emails.now) e.1 c.args.condition.now)
    (emails_at es) (emails_at c.loop-email.kept.items)) (take_all c.loop-email.email-index c.args.rows.now c.loop-email-test.false) (c.loop-email.invariant knows)
