use Rattle.http_routes.proofs.Routed.{one_route}
use Rattle.http_routes.proofs.laws.one_route.Goals as goal

pub returns : goal.returns
returns c = one_route
