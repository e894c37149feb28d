use Rattle.http_service.proofs.LawLemmas.{one_chunked}
use Rattle.http_service.proofs.laws.one_chunked_body.Goals as goal

pub returns : goal.returns
returns c = one_chunked
