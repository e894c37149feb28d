use Rattle.std.proofs.Common.{ℕ, List, Ok, Err, subst}
use Rattle.gate_world.proofs.Joins.{widen}
use Rattle.http_requests.specs.Asking.{AsksOverHttp}
use Rattle.gate_serving.proofs.Asked.{read_over_http, unread_over_http}
use Rattle.gate_serving.proofs.reading.read_http.Goals as goal

pub returns-in-Ok-clause-tape : goal.returns-in-Ok-clause-tape
returns-in-Ok-clause-tape g c =
    widen _ c.in-Ok.ensures.tape (λ es asks. read_over_http (g.W.Taped.hidden c.args.world.now).token c.in-Ok.asked c.asking_of.result es
    (subst (λ (id : List ℕ). AsksOverHttp (g.W.Taped.hidden c.args.world.now).token id (Ok c.in-Ok.asked) es) c.as_bytes.ensures.value asks) c.asking_of.ensures)

pub returns-in-Err-clause-tape : goal.returns-in-Err-clause-tape
returns-in-Err-clause-tape g c =
    widen _ c.in-Err.ensures.tape (λ es asks. unread_over_http (g.W.Taped.hidden c.args.world.now).token c.in-Err.error es
    (subst (λ (id : List ℕ). AsksOverHttp (g.W.Taped.hidden c.args.world.now).token id (Err c.in-Err.error) es) c.as_bytes.ensures.value asks))
