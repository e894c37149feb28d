use Rattle.store_causes.proofs.Losing.{noted_keeps, same_keeps}
use Rattle.store_causes.proofs.watched.WatchedPlan.hear.Goals as goal

pub returns-in_err-note-clause-kept : goal.returns-in_err-note-clause-kept
returns-in_err-note-clause-kept g c = λ first kept.
    (kept.0, λ keeps. same_keeps c.args.self.now.notes c.note.new.self c.in_err-note.ensures.kept (kept.1 keeps))

pub returns-clause-kept : goal.returns-clause-kept
returns-clause-kept g c = λ first kept.
    (c.hear.ensures.kept first.inner kept.0, λ keeps. noted_keeps c.args.self.now.notes c.note.new.self c.args.x c.in_ok-note.ensures.noted)
