use Rattle.std.proofs.Common.{◌≡◌, List, ℕ, [], ap, subst}
use Rattle.gate_world.specs.Sending.{Sends}
use Rattle.gate_world.proofs.Joins.{widen}
use Rattle.http_requests.specs.reading.Parts.{text_of}
use Rattle.http_requests.proofs.response.HttpResponse.send.Goals as goal

pub returns-in-Head-clause-tape : goal.returns-in-Head-clause-tape
returns-in-Head-clause-tape g c =
    let head = c.refusal_head.ensures [] in
    let parts = ap text_of c.in-Head.is in
    let view = c.self.view_is in
    let text : c.refusal_head.result.now ≡ c.args.self.now = cc in
    widen _ c.send_all.ensures.tape (λ x sent. subst (λ (l : List ℕ). Sends l c.send_all.result x) text sent)
