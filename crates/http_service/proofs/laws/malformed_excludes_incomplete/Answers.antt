use Rattle.http_service.proofs.LawLemmas.{not_both}
use Rattle.http_service.proofs.laws.malformed_excludes_incomplete.Goals as goal

pub returns : goal.returns
returns c = not_both
