use Rattle.http_service.proofs.LawLemmas.{one_head}
use Rattle.http_service.proofs.laws.one_head.Goals as goal

pub returns : goal.returns
returns c = one_head
