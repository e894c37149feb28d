use Rattle.gate_world.proofs.Joins.{none, widen}
use Rattle.gate_machine.proofs.Stages.{readied, is_readied}
use Rattle.gate_machine.proofs.machine.Machine.make_ready.Goals as goal

pub returns-in-Some-clause-tape : goal.returns-in-Some-clause-tape
returns-in-Some-clause-tape g c = none _ _ (λ before held. is_readied before c.args.self.now c.in-Some.field-0 held c.in-Some.is)

pub returns-in-None-clause-tape : goal.returns-in-None-clause-tape
returns-in-None-clause-tape g c =
    widen _ c.word-epoch.ensures.tape (λ es is before held.
    readied c.restart.result c.word-epoch.result before c.args.self.now c.restart.new.self held c.in-None.is is c.restart.ensures.ok c.restart.ensures.err)
