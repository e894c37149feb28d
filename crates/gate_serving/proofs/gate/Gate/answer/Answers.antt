use Rattle.std.proofs.Common.{ap, ◌∙◌}
use Rattle.gate_world.proofs.Joins.{widen}
use Rattle.gate_serving.specs.declared.door.Door.{Door}
use Rattle.gate_serving.specs.Answers.{no_memory_text}
use Rattle.gate_serving.specs.GateState.{unready_state}
use Rattle.gate_serving.proofs.Answering.{replied, replied_lacking}
use Rattle.gate_serving.proofs.gate.Gate.answer.Goals as goal

pub returns-in-Ok-clause-run : goal.returns-in-Ok-clause-run
returns-in-Ok-clause-run g c = widen _ c.in-Ok.ensures.run (λ es answers s held. let r = answers s held in (r.0, r.1, replied c.in-Ok.response r.2))

pub returns-in-Err-clause-run : goal.returns-in-Err-clause-run
returns-in-Err-clause-run g c =
    widen _ c.in-Err.ensures.run (λ es answers s held. let r = answers s held in (
      unready_state r.0,
      c.lack.ensures.state r.0 r.1,
      replied_lacking _ _ (c.lack.ensures.text ∙ ap (λ (d : Door). no_memory_text d) c.try_answer.ensures.rest.door) r.2,
    ))
