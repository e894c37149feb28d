use Rattle.std.proofs.Common.{◌∙◌, sym, subst, Err}
use Rattle.gate_world.proofs.Joins.{widen}
use Rattle.jmap_arguments.specs.declared.method_error.MethodError.{MethodError}
use Rattle.gate_machine.specs.declared.mail_status.MailStatus.TheVariants.{Stands}
use Rattle.set_items.specs.declared.item.ItemEnd.TheVariants.{Ends}
use Rattle.gate_changes.specs.Changing.{DoesCourse}
use Rattle.gate_changes.proofs.Settling.{failed_partly}
use Rattle.gate_changes.proofs.changing.finish_failed.Goals as goal

pub returns-in-ServerUnavailable-clause-run : goal.returns-in-ServerUnavailable-clause-run
returns-in-ServerUnavailable-clause-run g c =
    widen _ c.commit.ensures.run (λ es commits call items before mid doing was does came.
    commits call items before mid doing was
    (subst (λ (e : MethodError). DoesCourse call items before (Err (Ends e)) doing mid) c.in-ServerUnavailable.is does) tt came)

pub returns-in_default-clause-run : goal.returns-in_default-clause-run
returns-in_default-clause-run g c =
    widen _ c.break_off.ensures.run (λ es broke call items before mid doing was does came.
    failed_partly call items before mid doing was c.args.error c.break_off.result.came c.args.machine.now c.break_off.result.client c.break_off.result.status
    (g.L.Taped.faults c.break_off.new.link) es c.in_default.not-ServerUnavailable does c.break_off.ensures.came (broke mid c.args.machine.now Stands was came))

pub returns-in_default-clause-ready : goal.returns-in_default-clause-ready
returns-in_default-clause-ready g c = λ is. absurd (cc (sym c.break_off.ensures.status ∙ is))
