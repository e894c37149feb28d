use Rattle.gate_serving.specs.reading.Askings.{at_once_data}
use Rattle.gate_serving.proofs.Answering.{at_once}
use Rattle.gate_serving.proofs.Asked.{needless}
use Rattle.gate_serving.proofs.gate.Gate.answer_at_once.Goals as goal

pub returns-clause-run : goal.returns-clause-run
returns-clause-run g c =
    at_once c.unless_lacking.new.self c.response-made.new.self c.args.self.now (g.W.Taped.hidden c.args.world.now) (at_once_data c.args.asking) c.unless_lacking.result
    c.response-made.result (g.W.Taped.faults c.args.world.now) (needless c.args.asking) c.response-made.ensures.rest c.response-made.ensures.machine
    c.unless_lacking.ensures.made c.unless_lacking.ensures.ok c.unless_lacking.ensures.err c.response-made.ensures.may c.response-made.ensures.made c.response-made.ensures.takes
