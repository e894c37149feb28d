use Rattle.std.proofs.Common.{◌∙◌, refl}
use Rattle.gate_world.proofs.Joins.{join}
use Rattle.gate_serving.specs.declared.gate.Gate.{Gate}
use Rattle.gate_serving.specs.reading.Askings.{over_mail_data}
use Rattle.gate_serving.proofs.Asked.{needed}
use Rattle.gate_serving.proofs.Answering.{answers_on, finishes_lacking, on_err, on_ok, whichever}
use Rattle.gate_serving.proofs.gate.Gate.answer_over_mail.Goals as goal

pub answer_told-requires : goal.answer_told-requires
answer_told-requires g c = c.begin.ensures.ready c.in-Stands.is

pub returns-in-Stands-clause-run : goal.returns-in-Stands-clause-run
returns-in-Stands-clause-run g c =
    join _ c.in-Stands.ensures.run c.answer_told.ensures.run (λ xs ys begins finishes s held.
    answers_on c.answer_told.new.self c.args.self.now (g.W.Taped.hidden c.args.world.now) (over_mail_data c.args.asking) c.answer_told.result s
    (c.as_bytes-user.ensures.value ∙ c.as_str.ensures) c.begin.ensures.hidden (needed c.args.asking) c.answer_told.ensures.uploads (begins s.machine held.machine)
    (λ p came life. finishes p _ came (life refl)) held)

pub returns-in-Unserved-clause-run : goal.returns-in-Unserved-clause-run
returns-in-Unserved-clause-run g c =
    join _ c.in-Unserved.ensures.run c.answer_untold.ensures.run (λ xs ys begins finishes s held.
    answers_on c.answer_untold.new.self c.args.self.now (g.W.Taped.hidden c.args.world.now) (over_mail_data c.args.asking) c.answer_untold.result s
    (c.as_bytes-user.ensures.value ∙ c.as_str.ensures) c.begin.ensures.hidden (needed c.args.asking) c.answer_untold.ensures.uploads (begins s.machine held.machine)
    (λ p came life. finishes p _ c.in-Unserved.why came c.error_of.ensures) held)

pub returns-in-OutOfMemory-clause-run : goal.returns-in-OutOfMemory-clause-run
returns-in-OutOfMemory-clause-run g c =
    join _ c.in-OutOfMemory.ensures.run c.leave.ensures.tape (λ xs ys begins hangs s held.
    answers_on {h = g.W.Taped.hidden c.args.world.now} c.unless_lacking.new.self c.args.self.now (g.W.Taped.hidden c.args.world.now) (over_mail_data c.args.asking)
    c.unless_lacking.result s (c.as_bytes-user.ensures.value ∙ c.as_str.ensures) refl (needed c.args.asking)
    (whichever c.unless_lacking.result (on_ok (λ (gate : Gate). gate.uploads) _ _ c.unless_lacking.result c.unless_lacking.ensures.ok)
    (on_err (λ (gate : Gate). gate.uploads) _ _ c.unless_lacking.result c.unless_lacking.ensures.err)) (begins s.machine held.machine)
    (λ p came life.
    finishes_lacking c.unless_lacking.new.self.machine c.unless_lacking.result c.unless_lacking.ensures.made came
    (on_err (λ (gate : Gate). gate.machine.known) _ _ c.unless_lacking.result c.unless_lacking.ensures.err) hangs c.leave.ensures.cause) held)
