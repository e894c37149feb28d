-- Each request has one route, by what its path is of.
use Rattle.std.proofs.Common.{◌≡◌, ℕ, List, Option, Some, None, Result, Ok, Err, IfOk, refl, sym, ap, ◌∙◌}
use Rattle.http_routes.specs.declared.route.Route.{Route}
use Rattle.http_routes.specs.declared.router.Kind.{Kind}
use Rattle.http_routes.specs.Paths.{Resource}
use Rattle.http_routes.specs.Routing.{FindsResource, route_to, IsRoute}
use Rattle.http_routes.specs.reading.Finding.{resource_of, resource_at}
use Rattle.http_routes.specs.reading.Table.{kind_at}
use Rattle.http_routes.proofs.FoundPaths.{one_resource, finds}

-- what is found at a path is one
one_found : (path : List ℕ) (one other : Option Resource) → FindsResource path one → FindsResource path other → one ≡ other
one_found path None None is so = refl
one_found path None (Some other) is so = absurd (is other so)
one_found path (Some one) None is so = absurd (so one is)
one_found path (Some one) (Some other) is so = ap Some (one_resource path one other is so)

-- a request has one route
pub one_route : (account method path query : List ℕ) (one other : Route) → IsRoute account method path query one → IsRoute account method path query other → one ≡ other
one_route account method path query one other is so =
    is.is ∙ ap (λ (found : Option Resource). route_to found account method query) (one_found path is.found so.found is.finds so.finds) ∙ sym so.is

-- the route by the kind that the code finds is that of the request
pub is_route : {E : Type 0} (account method path query : List ℕ) (kind : Option Kind) (result : Result Route E) → kind ≡ kind_at path
    → IfOk result (λ route. route ≡ route_to (resource_of kind path) account method query) → IfOk result (λ route. IsRoute account method path query route)
is_route account method path query kind (Ok route) is_kind is = record {
  found = resource_at path;
  finds = finds path;
  is = is ∙ ap (λ (k : Option Kind). route_to (resource_of k path) account method query) is_kind;
}
is_route account method path query kind (Err e) is_kind is = tt
