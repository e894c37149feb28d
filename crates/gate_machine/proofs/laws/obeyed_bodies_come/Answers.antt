use Rattle.gate_machine.proofs.Coming.{prepared_up, bodies_come}
use Rattle.gate_machine.proofs.laws.obeyed_bodies_come.Goals as goal

pub returns-clause-up : goal.returns-clause-up
returns-clause-up c = prepared_up c.finished_lives_go_on.ensures.round

pub returns-clause-come : goal.returns-clause-come
returns-clause-come c = bodies_come c.obeyed_plans_end_ok.ensures c.finished_lives_go_on.ensures.body
