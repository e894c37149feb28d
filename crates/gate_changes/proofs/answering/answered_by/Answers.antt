use Rattle.std.proofs.Common.{sym, subst, IsSome, Result, Err, Vec, Global}
use Rattle.std.specs.Prelude.{OnOk}
use Rattle.jmap_arguments.specs.declared.method_error.MethodError.{MethodError}
use Rattle.set_jobs.specs.declared.done.Done.{Done}
use Rattle.set_order.specs.declared.item.Item.{Item}
use Rattle.set_calls.specs.declared.call.CallEnd.{CallEnd}
use Rattle.gate_changes.specs.Answering.{call_of}
use Rattle.gate_changes.specs.reading.Answers.{AnswersTo}
use Rattle.gate_changes.specs.reading.Asking.{ChangesTo}
use Rattle.gate_changes.proofs.Replying.{answered_done, answered_end}
use Rattle.gate_changes.proofs.answering.answered_by.Goals as goal

abbrev Came : Type 0
Came = Result (Vec (Item × Done) Global) CallEnd

pub returns-in-Ok-clause-answers : goal.returns-in-Ok-clause-answers
returns-in-Ok-clause-answers c = λ checks a h start items was now es before_is created_is is of to.
    answered_done checks c.args.method a h start c.args.machine.now c.args.changed.client c.args.changed.status was now items es is of c.in-Ok.done c.as_slice.result.now
    c.as_slice.ensures.value
    (subst (λ (r : Came). ChangesTo (call_of checks c.args.method a h start.created) items start.progress r c.args.machine.now c.args.changed.client c.args.changed.status was now es)
    c.in-Ok.is to)
    (subst (λ (r : Came). OnOk r (IsSome c.args.machine.now.known)) c.in-Ok.is c.requires)
    c.reply_after.result c.args.created.now c.reply_after.new.created c.args.before created_is before_is c.reply_after.ensures.reply c.reply_after.ensures.memory

pub returns-in-Err-clause-answers : goal.returns-in-Err-clause-answers
returns-in-Err-clause-answers c = λ checks a h start items was now es before_is created_is is of to.
    subst (λ (e : MethodError). AnswersTo checks c.args.method a h start (Err e) c.args.created.now c.args.machine.now c.args.changed.client c.args.changed.status was now es)
    (sym c.error_of.ensures)
    (answered_end checks c.args.method a h start c.args.machine.now c.args.changed.client c.args.changed.status was now items es is of c.in-Err.end
    (subst (λ (r : Came). ChangesTo (call_of checks c.args.method a h start.created) items start.progress r c.args.machine.now c.args.changed.client c.args.changed.status was now es)
    c.in-Err.is to)
    c.args.created.now created_is)
