use Rattle.gate_world.proofs.Joins.{none}
use Rattle.gate_machine.specs.declared.mail_status.MailStatus.TheVariants.{Stands}
use Rattle.set_arguments.specs.reading.Asked.{asked_data}
use Rattle.gate_changes.proofs.Replying.{lacked_first}
use Rattle.gate_changes.proofs.answering.answer_current.Goals as goal

pub returns-in-Err-clause-run : goal.returns-in-Err-clause-run
returns-in-Err-clause-run g c =
    none _ _ (λ all h start was check created_is is so at.
    lacked_first all c.args.method (asked_data c.args.asked.now) h start c.args.machine.now c.args.client Stands was (g.L.Taped.faults c.args.link.now) c.args.created.now at)
