-- What is asked, as the code has it.
use Rattle.std.specs.Prelude.{◌≡◌, ℕ, List, Result, Ok, Err}
use Rattle.gate_world.specs.declared.event.Event.{Event}
use Rattle.http_requests.specs.declared.asking.AskError.{AskError}
use Rattle.http_requests.specs.declared.asking.AskError.TheVariants.{Memory}
use Rattle.http_requests.specs.declared.asking.HttpAsking.{HttpAsking}
use Rattle.http_requests.specs.declared.asking.HttpAsking.TheVariants as http
use Rattle.jmap_core.specs.Request.{request_data, requested}
use Rattle.jmap_core.specs.declared.request.RequestError.{RequestError}
use Rattle.jmap_core.specs.declared.request.RequestError.TheVariants as error
use Rattle.gate_serving.specs.declared.asking.Asking.{Asking as Asked}
use Rattle.gate_serving.specs.declared.asking.Asking.TheVariants.{AtOnce, OverMail}
use Rattle.gate_serving.specs.declared.asking.AskingAtOnce.{AskingAtOnce}
use Rattle.gate_serving.specs.declared.asking.AskingAtOnce.TheVariants as at_once
use Rattle.gate_serving.specs.declared.asking.AskingOverMail.{AskingOverMail}
use Rattle.gate_serving.specs.declared.asking.AskingOverMail.TheVariants as over_mail
use Rattle.gate_serving.specs.declared.door.Door.{Door}
use Rattle.gate_serving.specs.Requests.{Asking, Calls, Problem, Session, Upload, Download, Refused, ReadsAsking, asked_by, asked_over_http}

abbrev pub at_once_data : AskingAtOnce → Asking
at_once_data (at_once.Calls calls) = Calls (request_data calls.request)
at_once_data (at_once.Problem error) = Problem error
at_once_data at_once.Session = Session
at_once_data (at_once.Upload upload) = Upload upload.media upload.octets
at_once_data (at_once.Refused refusal) = Refused refusal

abbrev pub over_mail_data : AskingOverMail → Asking
over_mail_data (over_mail.Calls calls) = Calls (request_data calls.request)
over_mail_data (over_mail.Download blob media) = Download blob media

abbrev pub asking_data : Asked → Asking
asking_data (AtOnce asking) = at_once_data asking
asking_data (OverMail asking) = over_mail_data asking

abbrev pub read_data : Result Asked AskError → Result Asking AskError
read_data (Ok asking) = Ok (asking_data asking)
read_data (Err e) = Err e

-- what a body asks, or memory ran out
abbrev pub AsksInBody : List ℕ → Result Asked AskError → Type 0
AsksInBody body (Ok asking) = asking_data asking ≡ asked_by (requested body)
AsksInBody body (Err e) = e ≡ Memory

-- what is asked by a body that is no request
abbrev pub IsNoRequest : RequestError → Result Asked AskError → Type 0
IsNoRequest error.Memory result = result ≡ Err Memory
IsNoRequest e result = result ≡ Ok (AtOnce (at_once.Problem e))

-- what is asked over HTTP, or memory ran out
abbrev pub AsksOf : HttpAsking → Result Asked AskError → Type 0
AsksOf over_http (Ok asking) = asking_data asking ≡ asked_over_http over_http
AsksOf over_http (Err e) = (e ≡ Memory) × ((body : List ℕ) × (over_http ≡ http.Calls body))

abbrev pub ReadsInto : Door → List ℕ → Result Asked AskError → List Event → Type 0
ReadsInto door token result events = ReadsAsking door token (read_data result) events
