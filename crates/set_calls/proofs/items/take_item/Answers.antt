use Rattle.std.proofs.Common.{◌≡◌, ◌∙◌, ap, refl, Ok, Err, Result}
use Rattle.std.proofs.lemmas.Result.{err_from_is_err_and}
use Rattle.gate_world.proofs.Joins.{join, widen}
use Rattle.set_jobs.specs.declared.done.SetError.{SetError}
use Rattle.set_jobs.specs.declared.job.Job.{Job}
use Rattle.set_order.specs.reading.Items.{item_data}
use Rattle.set_calls.specs.declared.call.CallEnd.{CallEnd}
use Rattle.set_calls.specs.declared.call.CallEnd.TheVariants as ends
use Rattle.set_calls.proofs.Steps.{next_same, refused, stepped, unprepared}
use Rattle.set_calls.proofs.items.take_item.Goals as goal

pub returns-in_err-job-clause-tape : goal.returns-in_err-job-clause-tape
returns-in_err-job-clause-tape g c =
    let end = err_from_is_err_and c.from_residual.result c.from_residual.ensures.1 in
    let is : c.from_residual.result ≡ Err ends.Memory = end.1 ∙ ap (λ (e : CallEnd). Err e) end.2 in
    widen _ c.in_err-job.ensures.tape
    (λ es says. unprepared c.args.call.now c.args.client.now c.args.mirror.now c.args.made.now c.args.changed.now (item_data c.args.item.now) (Err c.in_err-job.field-0.0)
    (g.L.Taped.faults c.args.link.now) (g.L.Taped.faults c.prepare_item.new.world) c.in_err-job.ensures.cause c.in_err-job.field-0.0 c.from_residual.result es refl is says)

pub returns-in_err-job-clause-next : goal.returns-in_err-job-clause-next
returns-in_err-job-clause-next g c = next_same _ c.each_is_mail.ensures

pub returns-in-Ok-clause-tape : goal.returns-in-Ok-clause-tape
returns-in-Ok-clause-tape g c =
    join _ c.in_ok-job.ensures.tape c.do_steps.ensures.tape
    (λ es fs says does. stepped c.args.call.now c.args.client.now c.args.mirror.now c.args.made.now c.args.changed.now (item_data c.args.item.now) (Ok c.in_ok-job.field-0)
    (g.L.Taped.faults c.args.link.now) (g.L.Taped.faults c.prepare_item.new.world) c.in_ok-job.ensures.cause c.in-Ok.job c.do_steps.new.client c.do_steps.new.mirror
    c.do_steps.new.changed (g.L.Taped.faults c.do_steps.new.link).link c.do_steps.result es fs (ap (λ (r : Result Job SetError). Ok r) c.in-Ok.is) says does)

pub returns-in-Err-clause-tape : goal.returns-in-Err-clause-tape
returns-in-Err-clause-tape g c =
    widen _ c.in_ok-job.ensures.tape
    (λ es says. refused c.args.call.now c.args.client.now c.args.mirror.now c.args.made.now c.args.changed.now (item_data c.args.item.now) (Ok c.in_ok-job.field-0)
    (g.L.Taped.faults c.args.link.now) (g.L.Taped.faults c.prepare_item.new.world) c.in_ok-job.ensures.cause c.in-Err.error es (ap (λ (r : Result Job SetError). Ok r) c.in-Err.is) says)

pub returns-in-Err-clause-next : goal.returns-in-Err-clause-next
returns-in-Err-clause-next g c = next_same _ c.each_is_mail.ensures
