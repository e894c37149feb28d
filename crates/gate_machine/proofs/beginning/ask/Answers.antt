use Rattle.gate_world.proofs.Joins.{widen}
use Rattle.gate_machine.proofs.Stages.{asked}
use Rattle.gate_machine.proofs.beginning.ask.Goals as goal

pub returns-clause-run : goal.returns-clause-run
returns-clause-run g c =
    widen _ c.ask-asked.ensures.tape (λ es rounds before was came.
    asked c.next_mail_joins.ensures c.telling_goes_on.ensures.all before c.args.machine.now c.end.new.self c.end.result was _ _ c.in-Some.known c.ask-asked.new.self came
    c.in-Some.is c.requires.alive rounds c.ask-asked.ensures.state c.ask-asked.ensures.served c.ask-asked.ensures.bodies c.ask-asked.ensures.alone c.ask-asked.ensures.cause
    c.end.ensures.standing c.end.ensures.machine)
