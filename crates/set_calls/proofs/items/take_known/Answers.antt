use Rattle.std.proofs.Common.{◌∙◌, Result, refl, ap}
use Rattle.gate_world.proofs.Joins.{none, widen}
use Rattle.set_jobs.specs.declared.done.SetError.{SetError}
use Rattle.set_jobs.specs.declared.job.Job.{Job}
use Rattle.set_methods.specs.Checks.{Rules, KnownSteps}
use Rattle.set_calls.specs.Calls.{call_begun}
use Rattle.set_calls.proofs.Known.{refused, stepped, leaves, left_none}
use Rattle.set_calls.proofs.Steps.{next_same}
use Rattle.set_calls.proofs.items.take_known.Goals as goal

abbrev known : Result Job SetError → Rules
known made = KnownSteps made

pub returns-in-Ok-clause-tape : goal.returns-in-Ok-clause-tape
returns-in-Ok-clause-tape g c =
    widen _ c.do_steps.ensures.tape (λ es does call life item rules stands.
    let job = c.in-Ok.job in
    let was = (g.L.Taped.faults c.args.link.now).link in
    let now = (g.L.Taped.faults c.do_steps.new.link).link in
    let went = does item (call_begun c.args.mirror.now.mail life) stands refl refl in
    let left = leaves item c.do_steps.new.client c.args.mirror.now c.do_steps.new.mirror c.do_steps.new.changed c.do_steps.result was now life went.0 went.2 in (
      went.0,
      stepped call item (call_begun c.args.mirror.now.mail life) job c.do_steps.result es went.0 (rules ∙ ap known c.in-Ok.is) went.1,
      left.stands,
      left.mail_is,
      left.counted,
      left.rose,
    ))

pub returns-in-Err-clause-tape : goal.returns-in-Err-clause-tape
returns-in-Err-clause-tape g c =
    none _ _ (λ call life item rules stands.
    let e = c.in-Err.refusal in
    let was = (g.L.Taped.faults c.args.link.now).link in
    let left = left_none item c.args.client.now c.args.mirror.now e was life stands in (
      call_begun c.args.mirror.now.mail life,
      refused call item (call_begun c.args.mirror.now.mail life) e (rules ∙ ap known c.in-Err.is),
      left.stands,
      left.mail_is,
      left.counted,
      left.rose,
    ))

pub returns-in-Err-clause-next : goal.returns-in-Err-clause-next
returns-in-Err-clause-next g c = next_same _ c.each_is_mail.ensures
