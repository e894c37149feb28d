use Rattle.std.proofs.Common.{◌≡◌, ◌∙◌, ap, sym, subst}
use Rattle.told_mail.specs.Exchanges.{TellsKnown}
use Rattle.told_mail.specs.Told.{Told}
use Rattle.told_changes.proofs.Reading.{told_whole, none_told}
use Rattle.told_changes.proofs.Steps.{steps_on, steps_counts}
use Rattle.told_changes.proofs.telling.tell_ok.Goals as goal

pub returns-in_err-tell_landed-clause-steps : goal.returns-in_err-tell_landed-clause-steps
returns-in_err-tell_landed-clause-steps c = c.tell_landed.ensures.steps

pub returns-in_err-tell-clause-steps : goal.returns-in_err-tell-clause-steps
returns-in_err-tell-clause-steps c = steps_on _ _ _ c.tell_landed.ensures.steps (steps_counts _ _ c.tell.ensures.next c.tell.ensures.counts)

pub returns-in_err-tell_changed-clause-steps : goal.returns-in_err-tell_changed-clause-steps
returns-in_err-tell_changed-clause-steps c =
    steps_on _ _ _ c.tell_landed.ensures.steps (steps_on _ _ _ (steps_counts _ _ c.tell.ensures.next c.tell.ensures.counts) c.tell_changed.ensures.steps)

pub returns-clause-ok : goal.returns-clause-ok
returns-clause-ok c =
    told_whole c.args.mirror.now.mail _ _ _ c.args.exchange.now c.requires.status c.requires.agrees c.in_ok-tell_landed.ensures.ok c.in_ok-tell.ensures.ok
    c.in_ok-tell_changed.ensures.ok

pub returns-clause-known : goal.returns-clause-known
returns-clause-known c = λ reads known.
    let same : c.tell_landed.new.mirror ≡ c.args.mirror.now = c.tell_landed.ensures.none (none_told c.args.mirror.now.mail c.args.exchange.now reads) in
    let still : TellsKnown c.tell_landed.new.mirror.mail c.args.exchange.now = subst (λ (z : Told). TellsKnown z.mail c.args.exchange.now) (sym same) known in
    ap (λ (z : Told). z.changes) (c.tell_changed.ensures.reading reads) ∙ (c.in_ok-tell.ensures.known still ∙ ap (λ (z : Told). z.changes) same)

pub returns-clause-steps : goal.returns-clause-steps
returns-clause-steps c =
    steps_on _ _ _ c.tell_landed.ensures.steps (steps_on _ _ _ (steps_counts _ _ c.tell.ensures.next c.tell.ensures.counts) c.tell_changed.ensures.steps)
