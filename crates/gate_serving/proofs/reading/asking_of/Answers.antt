use Rattle.std.proofs.Common.{List, ℕ, sym, subst}
use Rattle.http_requests.specs.declared.asking.HttpAsking.{HttpAsking}
use Rattle.gate_serving.specs.reading.Askings.{AsksInBody, AsksOf}
use Rattle.gate_serving.proofs.Asked.{calls_over_http}
use Rattle.gate_serving.proofs.reading.asking_of.Goals as goal

pub returns-in-Calls : goal.returns-in-Calls
returns-in-Calls c =
    subst (λ (a : HttpAsking). AsksOf a c.asking_in_body.result) (sym c.in-Calls.is)
    (calls_over_http c.in-Calls.body c.asking_in_body.result
    (subst (λ (l : List ℕ). AsksInBody l c.asking_in_body.result) c.as_slice.ensures c.asking_in_body.ensures))
