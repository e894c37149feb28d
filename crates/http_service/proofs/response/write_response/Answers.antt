use Rattle.gate_world.proofs.Joins.{join, widen}
use Rattle.gate_world.proofs.SendingLemmas.{first_failed, then_second}
use Rattle.http_service.proofs.response.write_response.Goals as goal

pub returns-in-Ok-clause-tape : goal.returns-in-Ok-clause-tape
returns-in-Ok-clause-tape g c =
    join _ c.in-Ok.ensures.tape c.send_all-in-Ok.ensures.tape (λ x y heard so. then_second y c.args.head.now c.args.body.now c.send_all-in-Ok.result heard so)

pub returns-in-Err-clause-tape : goal.returns-in-Err-clause-tape
returns-in-Err-clause-tape g c = widen _ c.in-Err.ensures.tape (λ x fails. first_failed c.args.head.now c.args.body.now fails)
