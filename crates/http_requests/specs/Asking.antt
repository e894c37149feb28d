-- What a client asks over HTTP, and what reading that adds to the tape: the head first, then the token, the route, and the body.
use Rattle.std.specs.Prelude.{◌≡◌, ◌⊎◌, ◌<◌, ◌++◌, ℕ, List, [], length, Option, Some, None, Result, Ok, Err, codes}
use Rattle.std.specs.Str.Lossy.{utf8_lossy}
use Rattle.gate_world.specs.declared.event.Event.{Event}
use Rattle.blob_store.specs.declared.store.TheConstants.{MAX_UPLOAD_OCTETS}
use Rattle.http_routes.specs.Routing.{IsRoute}
use Rattle.http_routes.specs.declared.route.Route.{Route}
use Rattle.http_routes.specs.declared.route.Route.TheVariants as route
use Rattle.http_service.specs.ReadBody.{ReadsBody}
use Rattle.http_service.specs.ReadHead.{ReadsHead}
use Rattle.http_service.specs.declared.error.HttpError.{HttpError}
use Rattle.http_service.specs.declared.error.HttpError.TheVariants.{BadHead, HeadTooLarge, TooLarge, Short, FrontFault, Memory}
use Rattle.http_service.specs.declared.head.Head.{Head}
use Rattle.http_service.specs.declared.refusal.Refusal.TheVariants as refusal
use Rattle.http_requests.specs.declared.ask.TheConstants.{MAX_REQUEST_OCTETS}
use Rattle.http_requests.specs.declared.asking.AskError.{AskError}
use Rattle.http_requests.specs.declared.asking.AskError.TheVariants as ask
use Rattle.http_requests.specs.declared.asking.HttpAsking.{HttpAsking}
use Rattle.http_requests.specs.declared.asking.HttpAsking.TheVariants.{Session, Calls, Upload, Download, Refused, CallsTooLarge, UploadTooLarge}

-- the token that came is the one that clients must show, which isn't empty
abbrev pub IsLetIn : List ℕ → Option (List ℕ) → Type 0
IsLetIn token None = ⊥
IsLetIn token (Some sent) = (sent ≡ token) × (0 < length token)

-- A head's target is UTF-8, which the lossy reading keeps.
abbrev pub IsRouteOfHead : List ℕ → Head → Route → Type 0
IsRouteOfHead account head route = IsRoute account head.method (utf8_lossy head.path) (utf8_lossy head.query) route

-- the type of what has none (RFC 9110 section 8.3)
abbrev pub octet_stream : List ℕ
octet_stream = codes "application/octet-stream"

-- the type of an upload: what its Content-Type says
abbrev pub upload_media : Option (List ℕ) → List ℕ
upload_media None = octet_stream
upload_media (Some value) = utf8_lossy value

-- What is asked by a head or a body that isn't read, where this is what one asks that is too large.
abbrev pub asks_without : HttpAsking → HttpError → Result HttpAsking AskError
asks_without too_large BadHead = Ok (Refused refusal.BadRequest)
asks_without too_large HeadTooLarge = Ok (Refused refusal.HeadTooLarge)
asks_without too_large (TooLarge limit) = Ok too_large
asks_without too_large Short = Err ask.Ended
asks_without too_large FrontFault = Err ask.Failed
asks_without too_large Memory = Err ask.Memory

-- no more is read
abbrev pub AsksAlone : HttpAsking → Result HttpAsking AskError → List Event → Type 0
AsksAlone asking result events = (result ≡ Ok asking) × (events ≡ [])

abbrev pub LacksMemory : Result HttpAsking AskError → List Event → Type 0
LacksMemory result events = (result ≡ Err ask.Memory) × (events ≡ [])

-- what a body asks
abbrev pub asks_with : (List ℕ → HttpAsking) → HttpAsking → Result (List ℕ) HttpError → Result HttpAsking AskError
asks_with of_body too_large (Ok body) = Ok (of_body body)
asks_with of_body too_large (Err e) = asks_without too_large e

-- The body that the head says is read, of at most this many octets, after those that came with the head.
pub record AsksWithBody (limit : ℕ) (of_body : List ℕ → HttpAsking) (too_large : HttpAsking) (head : Head) (rest : List ℕ)
    (result : Result HttpAsking AskError) (events : List Event) : Type 0 where
  pub after : List ℕ
  pub body : Result (List ℕ) HttpError
  pub reads : ReadsBody head.body head.expects limit rest after body events
  pub asks : result ≡ asks_with of_body too_large body

-- what a request of this route asks
abbrev pub RouteAsks : Route → Head → List ℕ → Result HttpAsking AskError → List Event → Type 0
RouteAsks route.Session head rest result events = AsksAlone Session result events
RouteAsks route.Api head rest result events = AsksWithBody MAX_REQUEST_OCTETS Calls CallsTooLarge head rest result events
RouteAsks route.Upload head rest result events =
    AsksWithBody MAX_UPLOAD_OCTETS (λ octets. Upload (upload_media head.content_type) octets) UploadTooLarge head rest result events
RouteAsks (route.Download blob name media) head rest result events = AsksAlone (Download blob name media) result events
RouteAsks route.NotFound head rest result events = AsksAlone (Refused refusal.NotFound) result events
RouteAsks route.MethodNotAllowed head rest result events = AsksAlone (Refused refusal.MethodNotAllowed) result events

-- what a request asks that is let in: what one of its route does
pub record AsksByRoute (account : List ℕ) (head : Head) (rest : List ℕ) (result : Result HttpAsking AskError) (events : List Event) : Type 0 where
  pub found : Route
  pub is_route : IsRouteOfHead account head found
  pub asks : RouteAsks found head rest result events

-- what a request with this head asks: the token comes before the route
abbrev pub HeadAsks : List ℕ → List ℕ → Head → List ℕ → Result HttpAsking AskError → List Event → Type 0
HeadAsks token account head rest result events =
    ((IsLetIn token head.token → ⊥) × AsksAlone (Refused refusal.Unauthorized) result events)
    ⊎ (IsLetIn token head.token × (AsksByRoute account head rest result events ⊎ LacksMemory result events))

-- after what was read as a head, which left these octets
abbrev pub AsksAfter : List ℕ → List ℕ → Result Head HttpError → List ℕ → Result HttpAsking AskError → List Event → Type 0
AsksAfter token account (Ok head) rest result events = HeadAsks token account head rest result events
AsksAfter token account (Err e) rest result events = (result ≡ asks_without (Refused refusal.HeadTooLarge) e) × (events ≡ [])

-- What a client asks whose request these events are: where clients must show this token, and this is the one account.
pub record AsksOverHttp (token account : List ℕ) (result : Result HttpAsking AskError) (events : List Event) : Type 0 where
  pub first : List Event
  pub second : List Event
  pub rest : List ℕ
  pub head : Result Head HttpError
  pub whole : events ≡ first ++ second
  pub reads : ReadsHead [] rest head first
  pub asks : AsksAfter token account head rest result second
