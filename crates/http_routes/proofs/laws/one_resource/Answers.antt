use Rattle.http_routes.proofs.FoundPaths.{one_resource}
use Rattle.http_routes.proofs.laws.one_resource.Goals as goal

pub returns : goal.returns
returns c = one_resource
