use Rattle.std.proofs.Common.{◌≡◌, ◌++◌, ℤ, w64, rules, List, append_assoc, Some, Ok, refl, subst}
use Rattle.std.proofs.lemmas.Int.{to_z-of_z}
use mir.Val.{SFits}
use Rattle.gate_world.specs.declared.event.Event.{Event}
use Rattle.gate_world.proofs.Joins.{join, widen}
use Rattle.email_import.specs.Messages.{import_job}
use Rattle.gate_machine.specs.Progress.{CameTo}
use Rattle.gate_machine.specs.declared.mail_status.MailStatus.TheVariants.{Stands}
use Rattle.gate_machine.proofs.Stages.{stays_borne}
use Rattle.gate_changes.specs.Importing.{PreparesImport, with_known}
use Rattle.gate_changes.specs.reading.Imports.{ImportCame}
use Rattle.gate_changes.proofs.Taking.{at_moment, no_room, over_known, prepares_over, was_taken}
use Rattle.gate_changes.proofs.importing.append.Goals as goal

pub returns-in-Ok-clause-run : goal.returns-in-Ok-clause-run
returns-in-Ok-clause-run g c =
    let fits : SFits w64 c.now-now.result = search rules in
    let job_is : c.in-Ok.job ≡ import_job c.args.ready c.now-now.result c.args.message =
    subst (λ (z : ℤ). c.in-Ok.job ≡ import_job c.args.ready z c.args.message) (to_z-of_z w64 c.now-now.result fits) c.in-Ok.ensures in
    join _ c.now-now.ensures.tape c.take.ensures.run (λ es fs drawn takes call uploads item before mid asks asking was ready over came.
    let prepares : PreparesImport call uploads item before asks (Some (Ok c.in-Ok.job)) (asking ++ es) mid =
    at_moment asking es c.args.ready c.args.message c.now-now.result c.in-Ok.job ready job_is drawn in
    let there : CameTo c.args.machine.now c.args.client Stands was (g.L.Taped.faults c.now-now.new.self) mid =
    record {
      held = came.held;
      standing_is = came.standing_is;
      in_life = came.in_life;
      bears = stays_borne mid.blamed was (g.L.Taped.faults c.args.link.now) (g.L.Taped.faults c.now-now.new.self) came.bears c.now-now.ensures.cause;
    } in
    let t = takes (with_known call (Ok c.in-Ok.job)) item mid was refl (over_known (Ok c.in-Ok.job) (prepares_over prepares over)) there in
    subst (λ (l : List Event). ImportCame call uploads item before c.take.result.0 c.take.new.machine c.take.result.1 was (g.L.Taped.faults c.take.new.link) l) (append_assoc asking es fs)
    (was_taken (Ok c.in-Ok.job) c.take.result.0 c.take.new.machine c.take.result.1 was (g.L.Taped.faults c.take.new.link) prepares t.1 t.2))

pub returns-in-Err-clause-run : goal.returns-in-Err-clause-run
returns-in-Err-clause-run g c =
    widen _ c.now-now.ensures.tape (λ es drawn call uploads item before mid asks asking was ready over came.
    no_room (import_job c.args.ready c.now-now.result c.args.message) c.args.machine.now c.args.client was (g.L.Taped.faults c.now-now.new.self)
    (at_moment asking es c.args.ready c.args.message c.now-now.result (import_job c.args.ready c.now-now.result c.args.message) ready refl drawn)
    (record {
      held = came.held;
      standing_is = came.standing_is;
      in_life = came.in_life;
      bears = stays_borne mid.blamed was (g.L.Taped.faults c.args.link.now) (g.L.Taped.faults c.now-now.new.self) came.bears c.now-now.ensures.cause;
    }))
