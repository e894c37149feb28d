use Rattle.std.proofs.Common.{◌∙◌, sym}
use Rattle.gate_world.proofs.Joins.{none, widen}
use Rattle.gate_machine.specs.declared.mail_status.MailStatus.TheVariants.{Stands}
use Rattle.set_arguments.specs.reading.Asked.{asked_data}
use Rattle.gate_changes.proofs.Replying.{mismatched, stands_for}
use Rattle.gate_changes.proofs.answering.answer_change.Goals as goal

pub returns-then-current-clause-run : goal.returns-then-current-clause-run
returns-then-current-clause-run g c =
    widen _ c.answer_current.ensures.run (λ es answers all h start was check created_is so at.
    answers all h start was check created_is
    (sym (c.is_at_state-current.ensures h (stands_for h start.progress c.args.machine.now c.state_of.result.now so at.held c.state_of.ensures)) ∙ c.if-current.true) so at)

pub returns-else-current-clause-run : goal.returns-else-current-clause-run
returns-else-current-clause-run g c =
    none _ _ (λ all h start was check created_is so at.
    mismatched all c.args.method (asked_data c.args.asked.now) h start c.args.machine.now c.args.client Stands was (g.L.Taped.faults c.args.link.now) c.args.created.now created_is
    (sym (c.is_at_state-current.ensures h (stands_for h start.progress c.args.machine.now c.state_of.result.now so at.held c.state_of.ensures)) ∙ c.if-current.false) at)
