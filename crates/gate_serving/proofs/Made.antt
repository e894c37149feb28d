-- Responses that are made, and what is asked for them.
use Rattle.std.proofs.Common.{◌≡◌, ◌⊎◌, ℕ, Bool, if◌then◌else◌, List, [], append-nil, Option, Some, None, Result, Ok, Err, refl, sym, ◌∙◌, ap, subst, inl, inr}
use Rattle.std.specs.Prelude.{IfOk, is_some}
use Rattle.std.specs.declared.alloc.AllocError.{AllocError}
use Rattle.serde_json.specs.Data.{Data}
use Rattle.gate_world.specs.Causes.{Hidden}
use Rattle.email_bodies.specs.Asking.{AsksInVain}
use Rattle.email_bodies.proofs.Joins.{vain_after}
use Rattle.email_bodies.specs.declared.error.BodyError.TheVariants as body
use Rattle.email_bodies.specs.Asking.{BodyAsk}
use Rattle.email_bodies.specs.declared.source.MessagePlace.{MessagePlace}
use Rattle.email_get.specs.Asked.{AsksAnd, FailsAfter}
use Rattle.email_get.specs.Blobs.{FindsBlob, OctetsFound}
use Rattle.email_get.proofs.Due.{due_blob}
use Rattle.jmap_core.specs.CreatedIds.{Ids}
use Rattle.jmap_core.specs.Request.{RequestData}
use Rattle.result_references.specs.Call.{CallData}
use Rattle.jmap_arguments.specs.declared.method_error.MethodError.{MethodError}
use Rattle.gate_calls.specs.Calls.{AnswersCalls}
use Rattle.gate_calls.specs.Sources.{BeforeNext, CallsGive, CallsLack, CallsMake}
use Rattle.gate_calls.specs.declared.method.Method.{Method}
use Rattle.gate_calls.proofs.Working.{AnswersUntold, LacksUntold, untold_calls, untold_lacks}
use Rattle.mail_maps.specs.Rows.{Rows}
use Rattle.gate_serving.specs.declared.door.Door.{Door}
use Rattle.gate_serving.specs.declared.response.Response.{Response}
use Rattle.gate_serving.specs.Answers.{calls_text, found_answer, json_answer, spelled}
use Rattle.gate_serving.specs.Doing.{ids_given, ids_told}
use Rattle.gate_serving.specs.Requests.{Account}
use Rattle.gate_serving.specs.reading.Making.{AsksAndMakes}
use Rattle.gate_serving.specs.reading.Texts.{text_sent}
use Rattle.gate_serving.proofs.Doing.{same_ids}

module _ {S : Type 0} (Answers : S → MessagePlace → Option (List ℕ) → S → Type 0) (Lacks : S → MessagePlace → S → Type 0) where
  -- ---- downloads

  -- what was found is told
  pub made_found : (emails : Rows) (uploads : List (List ℕ)) (id : List ℕ) (before after : S) (door : Door) (media : Option (List ℕ)) (found : OctetsFound)
      (made : Result Response AllocError) → AsksAnd Answers Lacks before after (λ asks. FindsBlob emails uploads id asks found)
      → IfOk made (λ r. text_sent r ≡ spelled door (found_answer found media))
      → AsksAndMakes Answers Lacks before after made
      (λ r asks. (o : OctetsFound) × FindsBlob emails uploads id asks o × (text_sent r ≡ spelled door (found_answer o media))) (FailsAfter (FindsBlob emails uploads id))
  made_found emails uploads id before after door media found (Ok r) gives text_is =
      record { asks = gives.asks; asked = gives.asked; meant = (found, gives.meant, text_is) }
  made_found emails uploads id before after door media found (Err e) gives text_is =
      vain_after Answers Lacks (FailsAfter (FindsBlob emails uploads id)) before after gives.asks gives.asked (due_blob emails uploads id gives.asks found gives.meant)

  -- a body that didn't come isn't out of memory
  pub ended : {V : Type 0} {P : List BodyAsk → Type 0} (before after : S) → ((body.Ended ≡ body.Memory) × V) ⊎ AsksAnd Answers Lacks before after P
      → AsksAnd Answers Lacks before after P
  ended before after (inl never) = absurd (let same : body.Ended ≡ body.Memory = never.0 in cc)
  ended before after (inr gives) = gives

  pub lacked : {X : Type 0} (emails : Rows) (uploads : List (List ℕ)) (id : List ℕ) (found : OctetsFound) (before after : S)
      → (X × AsksInVain Answers Lacks (FailsAfter (FindsBlob emails uploads id)) before after)
      ⊎ AsksAnd Answers Lacks before after (λ asks. FindsBlob emails uploads id asks found)
      → AsksInVain Answers Lacks (FailsAfter (FindsBlob emails uploads id)) before after
  lacked emails uploads id found before after (inl vain) = vain.1
  lacked emails uploads id found before after (inr gives) =
      vain_after Answers Lacks (FailsAfter (FindsBlob emails uploads id)) before after gives.asks gives.asked (due_blob emails uploads id gives.asks found gives.meant)

-- ---- calls

module _ {S : Type 0} (Answers : S → Method → Data → Result Data MethodError → S → Type 0) (Lacks : S → Method → Data → S → Type 0) {begun before : S} (after : S)
    (is : begun ≡ before) where
  -- the text of an answer that has the responses to calls, and these ids or none
  pub calls_made : (door : Door) (user base : List ℕ) (request : RequestData) (due told : Option Ids) (calls responses shown : List CallData)
      (made : Result Response AllocError) → told ≡ due → calls ≡ request.calls → shown ≡ responses
      → (rs : List CallData) × CallsGive Answers request.uses begun calls rs after × (responses ≡ rs)
      → IfOk made (λ r. text_sent r ≡ spelled door (json_answer 200 (calls_text user base shown told)))
      → CallsMake Answers Lacks request.uses before after request.calls made
      (λ r rs. text_sent r ≡ spelled door (json_answer 200 (calls_text user base rs due)))
  calls_made door user base request due told calls responses shown (Ok r) told_is calls_are shown_is (rs, gives, same) text_is = (
    rs,
    subst (λ (s : S). CallsGive Answers request.uses s request.calls rs after) is
        (subst (λ (cs : List CallData). CallsGive Answers request.uses begun cs rs after) calls_are gives),
    text_is ∙ (λ i. spelled door (json_answer 200 (calls_text user base ((shown_is ∙ same) i) (told_is i)))),
  )
  calls_made door user base request due told calls responses shown (Err e) told_is calls_are shown_is (rs, gives, same) text_is =
      record {
        firsts = calls;
        later = [];
        responses = rs;
        mid = after;
        calls_are = sym calls_are ∙ sym (append-nil calls);
        gives = subst (λ (s : S). CallsGive Answers request.uses s calls rs after) is gives;
        lacks = BeforeNext [] refl;
      }

  -- there was no memory for the responses
  pub calls_lacked : {X : Type 0} (IsSo : X → List CallData → Type 0) (request : RequestData) (calls : List CallData) (result : Result X AllocError) (e : AllocError)
      → result ≡ Err e → calls ≡ request.calls → CallsLack Answers Lacks request.uses begun calls after
      → CallsMake Answers Lacks request.uses before after request.calls result IsSo
  calls_lacked {X} IsSo request calls result e result_is calls_are lacks =
      subst (λ (r : Result X AllocError). CallsMake Answers Lacks request.uses before after request.calls r IsSo) (sym result_is)
      (subst (λ (s : S). CallsLack Answers Lacks request.uses s request.calls after) is
      (subst (λ (cs : List CallData). CallsLack Answers Lacks request.uses begun cs after) calls_are lacks))

-- the ids to tell
pub told_are : (given : Option Ids) (ids : Ids) (gives : Bool) → gives ≡ is_some given → (let o : Option Ids = if gives then Some ids else None in o) ≡ ids_told given ids
told_are None ids gives is = ap (λ (b : Bool). let o : Option Ids = if b then Some ids else None in o) is
told_are (Some held) ids gives is = ap (λ (b : Bool). let o : Option Ids = if b then Some ids else None in o) is

-- the response to calls without mail, from one moment to another
module _ {T : Type 0} (error : T → MethodError) (door : Door) (user base : List ℕ) (uploads : List (List ℕ)) (request : RequestData) (a b : T) where
  abbrev pub error_at : T × Ids → MethodError
  error_at s = error s.0

  abbrev pub UntoldCame : Result Response AllocError → Type 0
  UntoldCame made =
      (ids : Ids) × CallsMake (AnswersUntold error_at request.uses uploads) (LacksUntold error_at request.uses uploads) request.uses (a, ids_given request.created) (b, ids)
      request.calls made (λ r responses. text_sent r ≡ spelled door (json_answer 200 (calls_text user base responses (ids_told request.created ids))))

  pub untold_made : (account : Hidden → Account) → ((h : Hidden) → (user ≡ (account h).user) × (base ≡ (account h).base)) → (made : Result Response AllocError)
      → UntoldCame made → IfOk made (λ r. (responses : List CallData)
      × AnswersCalls request.uses (record { mail = Err (error a); uploads = uploads }) request.calls [] responses
      × ((h : Hidden) → text_sent r ≡ spelled door (json_answer 200 (calls_text (account h).user (account h).base responses request.created))))
  untold_made account named (Ok r) (ids, (responses, gives, text_is)) =
      let untold = untold_calls error_at request.uses uploads gives in
      let told_is : ids_told request.created ids ≡ request.created =
      ap (λ (s : T × Ids). ids_told request.created s.1) untold.0 ∙ same_ids request.created in (
        responses,
        untold.1,
        (λ h. let is = named h in text_is ∙ (λ i. spelled door (json_answer 200 (calls_text (is.0 i) (is.1 i) responses (told_is i))))),
      )
  untold_made account named (Err e) lacks = tt

  pub untold_stays : (made : Result Response AllocError) → UntoldCame made → b ≡ a
  untold_stays (Ok r) (ids, (responses, gives, text_is)) = ap (λ (s : T × Ids). s.0) (untold_calls error_at request.uses uploads gives).0
  untold_stays (Err e) (ids, lacks) = ap (λ (s : T × Ids). s.0) (untold_lacks error_at request.uses uploads lacks)

-- the same of what was asked
pub asked_calls : {P : Response → Type 0} {Q : Response → Type 0} (made : Result Response AllocError) → ((r : Response) → P r → Q r) → IfOk made P → IfOk made Q
asked_calls (Ok r) so is = so r is
asked_calls (Err e) so is = tt
