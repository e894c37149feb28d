-- What is done for what a client asks, from the moment on at which its mail can be told or not; and the answer to it (RFC 8620 sections 2, 3.4, 3.6.1,
-- 6.1 and 6.2).
use Rattle.std.specs.Prelude.{◌≡◌, ℕ, List, [], map, Option, Some, None}
use Rattle.serde_json.specs.Written.{compact_text}
use Rattle.gate_world.specs.declared.event.Event.{Event}
use Rattle.email_bodies.specs.Asking.{BodyAsk, AreDue}
use Rattle.http_service.specs.Refusals.{refusal_status}
use Rattle.jmap_core.specs.CreatedIds.{Ids}
use Rattle.jmap_core.specs.Problem.{text_of_problem, status_of as problem_status}
use Rattle.result_references.specs.Call.{CallData}
use Rattle.jmap_core.specs.Request.{RequestData}
use Rattle.jmap_core.specs.Session.{session_data}
use Rattle.gate_machine.specs.Fetching.{AsksBodies, CallsAsk}
use Rattle.gate_machine.specs.Progress.{Progress}
use Rattle.gate_calls.specs.Calling.{Asked, Body, CallsState, DoesCalls, LacksCalls}
use Rattle.gate_calls.specs.Mailings.{mail_at}
use Rattle.gate_serving.specs.Answers.{Answer, IsDownload, DownloadAsks, calls_text, empty_answer, json_answer, problem_answer, upload_data}
use Rattle.gate_serving.specs.Requests.{Account, Asking, Calls, Problem, Session, Upload, Download, Refused}

-- ---- the answer

-- the ids that a request gives, or none
abbrev pub ids_given : Option Ids → Ids
ids_given None = []
ids_given (Some ids) = ids

-- they are there before its first call
abbrev pub calls_begun : RequestData → Progress → CallsState
calls_begun request p = record { progress = p; created = ids_given request.created }

-- the ids that are told of those that were created: all where the request gives some, else none (RFC 8620 section 3.4)
abbrev pub ids_told : Option Ids → Ids → Option Ids
ids_told None created = None
ids_told (Some given) created = Some created

-- Method calls are done one after another. The answer has their responses, and the ids that were created by then, where the request gives some.
pub record DoesRequest (account : Account) (uploads : List (List ℕ)) (request : RequestData) (before : Progress) (asks : List Asked) (events : List Event)
    (answer : Answer) (after : Progress) : Type 0 where
  pub responses : List CallData
  pub done : CallsState
  pub does : DoesCalls request.uses uploads (calls_begun request before) request.calls asks responses events done
  pub after_is : after ≡ done.progress
  pub answer_is : answer ≡ json_answer 200 (calls_text account.user account.base responses (ids_told request.created done.created))

-- The octets that a blob id names are looked for; bodies are asked for that.
pub record DoesDownload (uploads : List (List ℕ)) (blob : List ℕ) (media : Option (List ℕ)) (before : Progress) (asks : List Asked) (events : List Event)
    (answer : Answer) (after : Progress) : Type 0 where
  pub bodies : List BodyAsk
  pub asks_are : asks ≡ map Body bodies
  pub finds : IsDownload (mail_at before) uploads blob media bodies answer
  pub asked : AsksBodies before bodies events after

-- Nothing of the outside is asked.
pub record DoesNothing (due : Answer) (before : Progress) (asks : List Asked) (events : List Event) (answer : Answer) (after : Progress) : Type 0 where
  pub answer_is : answer ≡ due
  pub no_asks : asks ≡ []
  pub no_events : events ≡ []
  pub after_is : after ≡ before

-- What is asked comes to this answer, by what is asked of the outside for it.
abbrev pub Answers : Account → List (List ℕ) → Asking → Progress → List Asked → List Event → Answer → Progress → Type 0
Answers account uploads (Calls request) before asks events answer after = DoesRequest account uploads request before asks events answer after
Answers account uploads (Problem e) before asks events answer after =
    DoesNothing (problem_answer (problem_status e) (text_of_problem e)) before asks events answer after
Answers account uploads Session before asks events answer after =
    DoesNothing (json_answer 200 (compact_text (session_data account.user account.base))) before asks events answer after
Answers account uploads (Upload media octets) before asks events answer after =
    DoesNothing (json_answer 201 (compact_text (upload_data media octets))) before asks events answer after
Answers account uploads (Download blob media) before asks events answer after = DoesDownload uploads blob media before asks events answer after
Answers account uploads (Refused refusal) before asks events answer after = DoesNothing (empty_answer (refusal_status refusal)) before asks events answer after

-- ---- out of memory

-- Memory runs out as a blob is looked for, or after that: bodies were asked by then that were due.
pub record LacksDownload (uploads : List (List ℕ)) (blob : List ℕ) (before : Progress) (events : List Event) (after : Progress) : Type 0 where
  pub tried : List BodyAsk
  pub asked : CallsAsk before tried events after
  pub due : AreDue (DownloadAsks (mail_at before) uploads blob) tried

abbrev pub Lacks : List (List ℕ) → Asking → Progress → List Event → Progress → Type 0
Lacks uploads (Calls request) before events after = LacksCalls request.uses uploads (calls_begun request before) request.calls events after
Lacks uploads (Download blob media) before events after = LacksDownload uploads blob before events after
Lacks uploads _ before events after = (events ≡ []) × (after ≡ before)

-- What is asked comes to an answer; or to none, as memory runs out.
pub data Does (account : Account) (uploads : List (List ℕ)) (asking : Asking) (before : Progress) (events : List Event) (after : Progress)
    : Option Answer → Type 0 where
  Comes : (asks : List Asked) (answer : Answer) → Answers account uploads asking before asks events answer after
      → Does account uploads asking before events after (Some answer)
  RunsOut : Lacks uploads asking before events after → Does account uploads asking before events after None
