use Rattle.std.proofs.Common.{sym, subst, Option, Some}
use Rattle.gate_world.specs.Tape.{Adds}
use Rattle.gate_world.proofs.Joins.{widen}
use Rattle.gate_serving.specs.declared.response.Response.{Response}
use Rattle.gate_serving.specs.reading.Replying.{SendsReply}
use Rattle.gate_serving.proofs.gate.send_reply.Goals as goal

pub returns-in-Some-clause-tape : goal.returns-in-Some-clause-tape
returns-in-Some-clause-tape g c =
    subst (λ (r : Option Response). Adds (g.F.Taped.tape c.args.front.now) (g.F.Taped.tape c.send.new.front) (SendsReply r c.served_by.result)) (sym c.in-Some.is)
    (widen (SendsReply (Some c.in-Some.response) c.served_by.result) c.send.ensures.tape (λ x sends. (c.send.result, sends, c.served_by.ensures)))
