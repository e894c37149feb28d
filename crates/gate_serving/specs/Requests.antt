-- What clients ask (RFC 8620 sections 2, 3.3, 6.1 and 6.2), and how it is read.
use Rattle.std.specs.Prelude.{◌≡◌, ◌⊎◌, ℕ, Bool, true, false, nat_le, All, List, length, if◌then◌else◌, Option, Result, Ok, Err}
use Rattle.gate_world.specs.declared.event.Event.{Event}
use Rattle.blob_store.specs.declared.store.TheConstants.{MAX_UPLOAD_OCTETS}
use Rattle.http_requests.specs.Asking.{AsksOverHttp}
use Rattle.http_requests.specs.declared.asking.AskError.{AskError}
use Rattle.http_requests.specs.declared.asking.AskError.TheVariants as unread
use Rattle.http_requests.specs.declared.asking.HttpAsking.{HttpAsking}
use Rattle.http_requests.specs.declared.asking.HttpAsking.TheVariants as http
use Rattle.http_service.specs.declared.refusal.Refusal.{Refusal}
use Rattle.jmap_arguments.specs.Arguments.{account_id}
use Rattle.jmap_core.specs.Request.{RequestData, requested}
use Rattle.jmap_core.specs.declared.request.RequestError.{RequestError}
use Rattle.jmap_core.specs.declared.request.RequestError.TheVariants.{Limit}
use Rattle.jmap_core.specs.declared.request.LimitName.TheVariants.{MaxSizeRequest, MaxSizeUpload}
use Rattle.gate_serving.specs.declared.door.Door.{Door}
use Rattle.gate_serving.specs.declared.door.Door.TheVariants.{Bare, Http}
use Rattle.gate_serving.specs.declared.front.FrontError.TheVariants as front
use Rattle.gate_serving.specs.declared.front.Input.TheVariants.{Whole, Cut}
use Rattle.gate_calls.specs.Calls.{needs_mail}
use Rattle.gate_calls.specs.MethodNames.{ChangesNoMail}
use Rattle.gate_serving.specs.Front.{GivesRequest}

-- Who is served: the store's user and password, the token that clients show, and the URL that they come by.
pub record Account : Type 0 where
  pub user : List ℕ
  pub password : List ℕ
  pub token : List ℕ
  pub base : List ℕ

-- what a client asks
pub data Asking : Type 0 where
  -- method calls
  Calls : RequestData → Asking
  -- no request, and why
  Problem : RequestError → Asking
  -- the Session
  Session : Asking
  -- these octets are to be kept, as this type
  Upload : (media octets : List ℕ) → Asking
  -- the octets of a blob, as this type where one is named
  Download : (blob : List ℕ) (media : Option (List ℕ)) → Asking
  -- what HTTP has no answer to
  Refused : Refusal → Asking

-- A download needs the mail whatever its blob, as method calls do that may be answered from mail.
abbrev pub asks_for_mail : Asking → Bool
asks_for_mail (Calls request) = needs_mail request.calls
asks_for_mail (Download blob media) = true
asks_for_mail _ = false

-- No call of it changes mail.
abbrev pub ReadsAlone : Asking → Type 0
ReadsAlone (Calls request) = All (λ call. ChangesNoMail request.uses call.name) request.calls
ReadsAlone _ = Unit {0}

-- ---- what is read

abbrev pub asked_by : Result RequestData RequestError → Asking
asked_by (Ok request) = Calls request
asked_by (Err e) = Problem e

-- an upload, where it isn't too large
abbrev pub upload_asked : List ℕ → List ℕ → Asking
upload_asked media octets = if nat_le (length octets) MAX_UPLOAD_OCTETS then Upload media octets else Problem (Limit MaxSizeUpload)

-- what is asked over HTTP
abbrev pub asked_over_http : HttpAsking → Asking
asked_over_http http.Session = Session
asked_over_http (http.Calls body) = asked_by (requested body)
asked_over_http (http.Upload media octets) = upload_asked media octets
asked_over_http (http.Download blob name media) = Download blob media
asked_over_http (http.Refused refusal) = Refused refusal
asked_over_http http.CallsTooLarge = Problem (Limit MaxSizeRequest)
asked_over_http http.UploadTooLarge = Problem (Limit MaxSizeUpload)

-- What reading a client's request adds, by the token that clients must show; or why it isn't read: the client ended its input
-- inside it, the front failed before its end, or memory ran out on the way or at its end. At the bare door a request is all that
-- the client gives; no more than one octet past the limit is read.
abbrev pub ReadsAsking : Door → List ℕ → Result Asking AskError → List Event → Type 0
ReadsAsking Bare token (Ok asking) events =
    ((octets : List ℕ) × GivesRequest (Ok (Whole octets)) events × (asking ≡ asked_by (requested octets)))
    ⊎ ((octets : List ℕ) × GivesRequest (Ok (Cut octets)) events × (asking ≡ Problem (Limit MaxSizeRequest)))
ReadsAsking Bare token (Err unread.Ended) events = ⊥
ReadsAsking Bare token (Err unread.Failed) events = GivesRequest (Err front.Failed) events
ReadsAsking Bare token (Err unread.Memory) events = GivesRequest (Err front.Memory) events ⊎ ((octets : List ℕ) × GivesRequest (Ok (Whole octets)) events)
ReadsAsking Http token (Ok asking) events = (asked : HttpAsking) × AsksOverHttp token account_id (Ok asked) events × (asking ≡ asked_over_http asked)
ReadsAsking Http token (Err unread.Memory) events =
    AsksOverHttp token account_id (Err unread.Memory) events ⊎ ((body : List ℕ) × AsksOverHttp token account_id (Ok (http.Calls body)) events)
ReadsAsking Http token (Err e) events = AsksOverHttp token account_id (Err e) events
