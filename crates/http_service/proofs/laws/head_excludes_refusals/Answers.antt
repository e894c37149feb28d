use Rattle.http_service.proofs.LawLemmas.{no_refusal}
use Rattle.http_service.proofs.laws.head_excludes_refusals.Goals as goal

pub returns : goal.returns
returns c = no_refusal
