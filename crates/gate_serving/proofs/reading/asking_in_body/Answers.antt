use Rattle.std.proofs.Common.{◌∙◌}
use Rattle.jmap_core.specs.Request.{request_data}
use Rattle.gate_serving.proofs.Asked.{request_in_body, vain_in_body}
use Rattle.gate_serving.proofs.reading.asking_in_body.Goals as goal

pub returns-in-Ok : goal.returns-in-Ok
returns-in-Ok c = c.of_request.ensures ∙ request_in_body c.args.body.now (request_data c.in-Ok.request) c.in-Ok.ensures

pub returns-in-Err : goal.returns-in-Err
returns-in-Err c = vain_in_body c.args.body.now c.in-Err.error c.problem_of.result c.problem_of.ensures c.in-Err.ensures
