-- Requests that are read part after part.
use Rattle.std.proofs.Common.{◌≡◌, ◌⊎◌, ◌++◌, ℕ, List, [], Result, Ok, Err, IfOk, inl, inr, refl, sym, subst}
use Rattle.std.specs.Str.Lossy.{utf8_lossy}
use Rattle.std.proofs.lemmas.List.{append-nil}
use Rattle.gate_world.specs.declared.event.Event.{Event}
use Rattle.http_routes.specs.Routing.{IsRoute}
use Rattle.http_routes.specs.declared.route.Route.{Route}
use Rattle.http_service.specs.ReadHead.{ReadsHead}
use Rattle.http_service.specs.declared.error.HttpError.{HttpError}
use Rattle.http_service.specs.declared.head.Head.{Head}
use Rattle.http_requests.specs.declared.asking.AskError.{AskError}
use Rattle.http_requests.specs.declared.asking.HttpAsking.{HttpAsking}
use Rattle.http_requests.specs.Asking.{IsLetIn, IsRouteOfHead, RouteAsks, LacksMemory, HeadAsks, AsksAfter, AsksOverHttp}

-- a head, and what is asked after it
pub head_asks : {token account : List ℕ} (rest : List ℕ) (first second : List Event) (head : Result Head HttpError) (result : Result HttpAsking AskError)
    → ReadsHead [] rest head first → AsksAfter token account head rest result second → AsksOverHttp token account result (first ++ second)
head_asks rest first second head result reads asks =
    record { first = first; second = second; rest = rest; head = head; whole = refl; reads = reads; asks = asks }

-- nothing is read after a head that isn't read
pub nothing_after : {token account : List ℕ} (rest : List ℕ) (first : List Event) (head : Result Head HttpError) (result : Result HttpAsking AskError)
    → ReadsHead [] rest head first → AsksAfter token account head rest result [] → AsksOverHttp token account result first
nothing_after rest first head result reads asks =
    record { first = first; second = []; rest = rest; head = head; whole = sym (append-nil first); reads = reads; asks = asks }

-- the route of a target is that of the head that has it
pub route_of_target : {E : Type 0} (account : List ℕ) (head : Head) (method path query : List ℕ) (result : Result Route E) → method ≡ head.method → path ≡ utf8_lossy head.path
    → query ≡ utf8_lossy head.query → IfOk result (λ route. IsRoute account method path query route) → IfOk result (λ route. IsRouteOfHead account head route)
route_of_target account head method path query (Ok route) same_method same_path same_query is =
    subst (λ (m : List ℕ). IsRoute account m (utf8_lossy head.path) (utf8_lossy head.query) route) same_method
    (subst (λ (p : List ℕ). IsRoute account method p (utf8_lossy head.query) route) same_path (subst (λ (q : List ℕ). IsRoute account method path q route) same_query is))
route_of_target account head method path query (Err e) same_method same_path same_query is = tt

-- what a request asks that is let in and has this route
pub route_asks : (token account rest : List ℕ) (head : Head) (route : Route) (result : Result HttpAsking AskError) (events : List Event) → IsLetIn token head.token
    → IsRouteOfHead account head route → RouteAsks route head rest result events ⊎ LacksMemory result events → HeadAsks token account head rest result events
route_asks token account rest head route result events let_in is (inl asks) = inr (let_in, inl (record { found = route; is_route = is; asks = asks }))
route_asks token account rest head route result events let_in is (inr lacks) = inr (let_in, inr lacks)
