-- What is asked, in a body and over HTTP.
use Rattle.std.proofs.Common.{arith, ◌≡◌, ◌⊎◌, ◌<◌, ◌≤◌, ℕ, Bool, true, false, List, length, nat_le, if◌then◌else◌, Result, Ok, Err, refl, sym, ap, subst, ◌∙◌, inl, inr}
use Rattle.std.proofs.lemmas.Bool.Decides.{nat_tests}
use Rattle.gate_world.specs.declared.event.Event.{Event}
use Rattle.blob_store.specs.declared.store.TheConstants.{MAX_UPLOAD_OCTETS}
use Rattle.http_requests.specs.Asking.{AsksOverHttp}
use Rattle.http_requests.specs.declared.asking.AskError.{AskError}
use Rattle.http_requests.specs.declared.asking.AskError.TheVariants as unread
use Rattle.http_requests.specs.declared.asking.HttpAsking.{HttpAsking}
use Rattle.http_requests.specs.declared.asking.HttpAsking.TheVariants as http
use Rattle.jmap_core.specs.Request.{RequestData, requested}
use Rattle.jmap_core.specs.declared.request.LimitName.TheVariants.{MaxSizeUpload}
use Rattle.jmap_core.specs.declared.request.RequestError.{RequestError}
use Rattle.jmap_core.specs.declared.request.RequestError.TheVariants.{NotJson, NotRequest, UnknownCapability, Limit, Memory}
use Rattle.gate_serving.specs.declared.asking.Asking.{Asking as Asked}
use Rattle.gate_serving.specs.declared.asking.Asking.TheVariants.{AtOnce}
use Rattle.gate_serving.specs.declared.asking.AskingAtOnce.{AskingAtOnce}
use Rattle.gate_serving.specs.declared.asking.AskingAtOnce.TheVariants as at_once
use Rattle.gate_serving.specs.declared.asking.AskingOverMail.{AskingOverMail}
use Rattle.gate_serving.specs.declared.asking.AskingOverMail.TheVariants as over_mail
use Rattle.gate_serving.specs.declared.door.Door.TheVariants.{Bare, Http}
use Rattle.gate_serving.specs.declared.front.Input.TheVariants.{Whole}
use Rattle.gate_serving.specs.Front.{GivesRequest}
use Rattle.gate_serving.specs.Requests.{Asking, Calls, Problem, Upload, asked_by, asks_for_mail, upload_asked}
use Rattle.jmap_arguments.specs.Arguments.{account_id}
use Rattle.gate_serving.specs.reading.Askings.{AsksInBody, IsNoRequest, AsksOf, ReadsInto, at_once_data, over_mail_data}

-- ---- the mail

-- what is answered at once needs no mail
pub needless : (asking : AskingAtOnce) → asks_for_mail (at_once_data asking) ≡ false
needless (at_once.Calls calls) = calls.needless
needless (at_once.Problem error) = refl
needless at_once.Session = refl
needless (at_once.Upload upload) = refl
needless (at_once.Refused refusal) = refl

-- what is answered over the mail needs it
pub needed : (asking : AskingOverMail) → asks_for_mail (over_mail_data asking) ≡ true
needed (over_mail.Calls calls) = calls.needs
needed (over_mail.Download blob media) = refl

-- ---- a body

-- a body that is a request asks its calls
pub request_in_body : (body : List ℕ) (request : RequestData) → requested body ≡ Ok request → Calls request ≡ asked_by (requested body)
request_in_body body request is = sym (ap asked_by is)

problem_in_body : (body : List ℕ) (e : RequestError) (result : Result Asked AskError) → result ≡ Ok (AtOnce (at_once.Problem e)) → requested body ≡ Err e → AsksInBody body result
problem_in_body body e result is why = subst (λ (r : Result Asked AskError). AsksInBody body r) (sym is) (sym (ap asked_by why))

-- a body that is no request asks the problem that it has, or memory ran out
pub vain_in_body : (body : List ℕ) (e : RequestError) (result : Result Asked AskError) → IsNoRequest e result → (e ≡ Memory) ⊎ (requested body ≡ Err e) → AsksInBody body result
vain_in_body body Memory result is cause = subst (λ (r : Result Asked AskError). AsksInBody body r) (sym is) refl
vain_in_body body NotJson result is (inl out) = absurd (cc out)
vain_in_body body NotJson result is (inr why) = problem_in_body body NotJson result is why
vain_in_body body NotRequest result is (inl out) = absurd (cc out)
vain_in_body body NotRequest result is (inr why) = problem_in_body body NotRequest result is why
vain_in_body body UnknownCapability result is (inl out) = absurd (cc out)
vain_in_body body UnknownCapability result is (inr why) = problem_in_body body UnknownCapability result is why
vain_in_body body (Limit name) result is (inl out) = absurd (cc out)
vain_in_body body (Limit name) result is (inr why) = problem_in_body body (Limit name) result is why

-- no body ends early
pub never_ended : (body : List ℕ) (result : Result Asked AskError) → AsksInBody body result → result ≡ Err unread.Ended → ⊥
never_ended body (Ok asking) is ended = absurd (cc ended)
never_ended body (Err e) is ended = absurd (cc (is, ended))

-- at the bare door a request is all that the client gives
pub read_in_body : (token body : List ℕ) (result : Result Asked AskError) (events : List Event) → GivesRequest (Ok (Whole body)) events → AsksInBody body result
    → ReadsInto Bare token result events
read_in_body token body (Ok asking) events gives is = inl (body, gives, is)
read_in_body token body (Err unread.Memory) events gives is = inr (body, gives)
read_in_body token body (Err unread.Ended) events gives is = absurd (cc is)
read_in_body token body (Err unread.Failed) events gives is = absurd (cc is)

-- ---- over HTTP

-- calls over HTTP ask what their body asks
pub calls_over_http : (body : List ℕ) (result : Result Asked AskError) → AsksInBody body result → AsksOf (http.Calls body) result
calls_over_http body (Ok asking) is = is
calls_over_http body (Err e) is = (is, (body, refl))

-- what was read over HTTP asks what it stands for, or memory ran out
pub read_over_http : (token : List ℕ) (over_http : HttpAsking) (result : Result Asked AskError) (events : List Event) → AsksOverHttp token account_id (Ok over_http) events
    → AsksOf over_http result → ReadsInto Http token result events
read_over_http token over_http (Ok asking) events asks is = (over_http, asks, is)
read_over_http token over_http (Err unread.Memory) events asks (out, (body, is)) =
    inr (body, subst (λ (a : HttpAsking). AsksOverHttp token account_id (Ok a) events) is asks)
read_over_http token over_http (Err unread.Ended) events asks (out, so) = absurd (cc out)
read_over_http token over_http (Err unread.Failed) events asks (out, so) = absurd (cc out)

-- where a request isn't read over HTTP, reading at that door ends for the same cause
pub unread_over_http : (token : List ℕ) (e : AskError) (events : List Event) → AsksOverHttp token account_id (Err e) events → ReadsInto Http token (Err e) events
unread_over_http token unread.Memory events asks = inl asks
unread_over_http token unread.Ended events asks = asks
unread_over_http token unread.Failed events asks = asks

-- ---- uploads

by_size : List ℕ → List ℕ → Bool → Asking
by_size media octets fits = if fits then Upload media octets else Problem (Limit MaxSizeUpload)

-- an upload that isn't too large is asked
pub kept_upload : (media octets m o : List ℕ) → m ≡ media → o ≡ octets → length octets ≤ MAX_UPLOAD_OCTETS → Upload m o ≡ upload_asked media octets
unfolding by_size
kept_upload media octets m o media_is octets_is fits =
    let test : nat_le (length octets) MAX_UPLOAD_OCTETS ≡ true = grind (arith, nat_tests) in
    (λ i. Upload (media_is i) (octets_is i)) ∙ sym (ap (by_size media octets) test)

-- an upload that is too large is a problem
pub large_upload : (media octets : List ℕ) → MAX_UPLOAD_OCTETS < length octets → Problem (Limit MaxSizeUpload) ≡ upload_asked media octets
unfolding by_size
large_upload media octets large =
    let test : nat_le (length octets) MAX_UPLOAD_OCTETS ≡ false = grind (arith, nat_tests) in
    sym (ap (by_size media octets) test)
