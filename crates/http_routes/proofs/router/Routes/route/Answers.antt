use Rattle.http_routes.proofs.Routed.{is_route}
use Rattle.http_routes.proofs.router.Routes.route.Goals as goal

pub returns : goal.returns
returns c =
    is_route c.args.account.now c.args.request.method.now c.args.request.path.now c.args.request.query.now c.kind.result c.route_of_kind.result c.kind.ensures
    c.route_of_kind.ensures
