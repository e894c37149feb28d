-- What clients are answered (RFC 8620 sections 2, 3.4, 3.6.1, 6.1 and 6.2), and how the answer is spelled.
use Rattle.std.specs.Prelude.{◌≡◌, ◌⊎◌, ◌++◌, ℕ, List, [], ◌∷◌, length, Option, Some, None, Ok, Err, codes}
use Rattle.serde_json.specs.Data.{unsigned, Data, number, string, object, no_members, member}
use Rattle.serde_json.specs.Written.{compact_text}
use Rattle.blob_store.specs.Uploads.{blob_id, TakesUpload}
use Rattle.blob_store.specs.declared.store.TheConstants.{MAX_KEPT_OCTETS}
use Rattle.http_requests.specs.Responses.{http_response, json_media, problem_media, download_media}
use Rattle.jmap_core.specs.CreatedIds.{Ids}
use Rattle.result_references.specs.Call.{CallData}
use Rattle.jmap_core.specs.Response.{response_data}
use Rattle.jmap_core.specs.Session.{session_state_text}
use Rattle.email_bodies.specs.Asking.{BodyAsk}
use Rattle.email_get.specs.Asked.{FailsAfter}
use Rattle.email_get.specs.Blobs.{FindsBlob, OctetsFound}
use Rattle.gate_calls.specs.Mailings.{Mailing}
use Rattle.gate_serving.specs.declared.door.Door.{Door}
use Rattle.gate_serving.specs.declared.door.Door.TheVariants.{Bare, Http}
use Rattle.gate_serving.specs.Requests.{Asking, Upload, Refused}
use Rattle.jmap_arguments.specs.Arguments.{account_id}

-- a status of HTTP, and a body of this type
pub record Answer : Type 0 where
  pub status : ℕ
  pub media : List ℕ
  pub body : List ℕ

abbrev pub json_answer : ℕ → List ℕ → Answer
json_answer status text = record { status = status; media = json_media; body = text }

abbrev pub problem_answer : ℕ → List ℕ → Answer
problem_answer status text = record { status = status; media = problem_media; body = text }

abbrev pub empty_answer : ℕ → Answer
empty_answer status = record { status = status; media = []; body = [] }

-- ---- method calls

-- these responses to a request's calls and the ids that were created by then, with the Session's state of this user and base
unfoldable pub calls_text : List ℕ → List ℕ → List CallData → Option Ids → List ℕ
calls_text user base responses created = compact_text (response_data responses created (session_state_text user base))

-- ---- uploads and downloads

-- what is told of an upload (RFC 8620 section 6.1)
abbrev pub upload_data : List ℕ → List ℕ → Data
upload_data media octets = object
    (member (codes "accountId") (string account_id)
    (member (codes "blobId") (string (blob_id octets))
    (member (codes "size") (number (unsigned (length octets)))
    (member (codes "type") (string media)
    no_members))))

-- the uploads that are kept after what is asked
abbrev pub KeepsUpload : Asking → List (List ℕ) → List (List ℕ) → Type 0
KeepsUpload (Upload media octets) before after = TakesUpload MAX_KEPT_OCTETS octets before after
KeepsUpload _ before after = after ≡ before

-- the same where memory may have run out before
abbrev pub MayKeepUpload : Asking → List (List ℕ) → List (List ℕ) → Type 0
MayKeepUpload asking before after = (after ≡ before) ⊎ KeepsUpload asking before after

-- a blob that can't be told, as the store can't be asked
abbrev pub untold_problem : Data
untold_problem = object (member (codes "status") (number (unsigned 404)) (member (codes "type") (string (codes "about:blank")) no_members))

-- the octets that a blob id names, where it names some; a body that doesn't come is as mail that can't be told
abbrev pub found_answer : OctetsFound → Option (List ℕ) → Answer
found_answer (Ok (Some octets)) media = record { status = 200; media = download_media media; body = octets }
found_answer (Ok None) media = empty_answer 404
found_answer (Err e) media = problem_answer 404 (compact_text untold_problem)

-- a download over this mail and these uploads, for which these bodies are asked
abbrev pub IsDownload : Mailing → List (List ℕ) → List ℕ → Option (List ℕ) → List BodyAsk → Answer → Type 0
IsDownload (Ok h) uploads blob media asks answer =
    (found : OctetsFound) × FindsBlob h.numbered.rows uploads blob asks found × (answer ≡ found_answer found media)
IsDownload (Err e) uploads blob media asks answer = (asks ≡ []) × (answer ≡ problem_answer 404 (compact_text untold_problem))

-- these bodies are asked for it, of which the last one doesn't come
abbrev pub DownloadAsks : Mailing → List (List ℕ) → List ℕ → List BodyAsk → Type 0
DownloadAsks (Ok h) uploads blob asks = FailsAfter (FindsBlob h.numbered.rows uploads blob) asks
DownloadAsks (Err e) uploads blob asks = ⊥

-- ---- how it is spelled

-- each line ends so
abbrev pub line_end : List ℕ
line_end = 10 ∷ []

-- At the bare door an answer is its body, as a line.
abbrev pub spelled : Door → Answer → List ℕ
spelled Bare answer = answer.body ++ line_end
spelled Http answer = http_response answer.status answer.media answer.body

-- The response takes memory: each but that to what is refused, which has no body.
abbrev pub TakesMemory : Asking → Type 0
TakesMemory (Refused refusal) = ⊥
TakesMemory _ = Unit {0}

-- out of memory (RFC 9110 section 15.6.4)
abbrev pub no_memory_text : Door → List ℕ
no_memory_text door = spelled door (empty_answer 503)
