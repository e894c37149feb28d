use Rattle.gate_world.proofs.Joins.{widen}
use Rattle.gate_machine.proofs.Stages.{dialed}
use Rattle.gate_machine.proofs.beginning.dial.Goals as goal

pub returns-clause-run : goal.returns-clause-run
returns-clause-run g c =
    widen _ c.connect-connected.ensures.tape (λ es connects before held. dialed before c.args.machine.now c.end.new.self c.end.result _ _ held connects.1
    c.connect-connected.ensures.ended c.connect-connected.ensures.alone c.connect-connected.ensures.cause c.end.ensures.standing c.end.ensures.machine)
