use Rattle.http_service.proofs.BodyLawLemmas.{no_body_refusal}
use Rattle.http_service.proofs.laws.chunked_body_excludes_refusals.Goals as goal

pub returns : goal.returns
returns c = no_body_refusal
