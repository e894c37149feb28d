use Rattle.std.proofs.Common.{sym, ap, ◌∙◌}
use Rattle.http_service.specs.declared.refusal.Refusal.{Refusal}
use Rattle.http_service.specs.Responses.{response_head}
use Rattle.http_service.specs.Refusals.{refusal_status}
use Rattle.http_service.proofs.RefusalLemmas.{head_400, head_401, head_404, head_405, head_431, head_503}
use Rattle.http_service.proofs.refusal.refusal_head.Goals as goal

pub returns-in-BadRequest : goal.returns-in-BadRequest
returns-in-BadRequest c = λ media. head_400 media ∙ ap (λ (r : Refusal). response_head (refusal_status r) 0 media) (sym c.in-BadRequest.is)

pub returns-in-Unauthorized : goal.returns-in-Unauthorized
returns-in-Unauthorized c = λ media. head_401 media ∙ ap (λ (r : Refusal). response_head (refusal_status r) 0 media) (sym c.in-Unauthorized.is)

pub returns-in-NotFound : goal.returns-in-NotFound
returns-in-NotFound c = λ media. head_404 media ∙ ap (λ (r : Refusal). response_head (refusal_status r) 0 media) (sym c.in-NotFound.is)

pub returns-in-MethodNotAllowed : goal.returns-in-MethodNotAllowed
returns-in-MethodNotAllowed c = λ media. head_405 media ∙ ap (λ (r : Refusal). response_head (refusal_status r) 0 media) (sym c.in-MethodNotAllowed.is)

pub returns-in-HeadTooLarge : goal.returns-in-HeadTooLarge
returns-in-HeadTooLarge c = λ media. head_431 media ∙ ap (λ (r : Refusal). response_head (refusal_status r) 0 media) (sym c.in-HeadTooLarge.is)

pub returns-in-Unavailable : goal.returns-in-Unavailable
returns-in-Unavailable c = λ media. head_503 media ∙ ap (λ (r : Refusal). response_head (refusal_status r) 0 media) (sym c.in-Unavailable.is)
