use Rattle.gate_world.proofs.Joins.{none, widen}
use Rattle.gate_machine.specs.declared.mail_status.MailStatus.TheVariants.{Unserved}
use Rattle.set_calls.specs.reading.Calling.{came_data}
use Rattle.gate_changes.proofs.Settling.{committed, lacked, spent_by}
use Rattle.gate_changes.proofs.changing.commit.Goals as goal

pub returns-in-Stands-clause-run : goal.returns-in-Stands-clause-run
returns-in-Stands-clause-run g c =
    none _ _ (λ call items before mid doing was does goes came.
    committed call items before mid doing was c.args.came c.settle.new.self c.args.client (g.L.Taped.faults c.args.link.now) does goes
    (c.in-Stands.ensures.run mid c.args.client was (g.L.Taped.faults c.args.link.now) came))

pub returns-in-Unserved-clause-run : goal.returns-in-Unserved-clause-run
returns-in-Unserved-clause-run g c =
    widen _ c.break_off.ensures.run (λ es broke call items before mid doing was does goes came.
    spent_by call items before mid doing was (came_data c.args.came) c.break_off.result.came c.settle.new.self c.args.client c.break_off.result.client c.in-Unserved.field-0
    c.break_off.result.status (g.L.Taped.faults c.args.link.now) (g.L.Taped.faults c.break_off.new.link) es does goes
    (c.in-Unserved.ensures.run mid c.args.client was (g.L.Taped.faults c.args.link.now) came) c.break_off.ensures.came
    (λ p at. broke p c.settle.new.self (Unserved c.in-Unserved.field-0) was at))

pub returns-clause-run : goal.returns-clause-run
returns-clause-run g c =
    none _ _ (λ call items before mid doing was does goes came.
    lacked call items before mid doing was (came_data c.args.came) c.settle.new.self c.args.client (g.L.Taped.faults c.args.link.now) does goes
    (c.in-OutOfMemory.ensures.run mid c.args.client was (g.L.Taped.faults c.args.link.now) came))
