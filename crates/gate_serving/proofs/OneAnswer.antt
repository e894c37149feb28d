-- What is asked has one answer.
use Rattle.std.proofs.Common.{◌≡◌, ◌++◌, ℕ, List, map, Option, Ok, Err, refl, sym, ap, subst, ◌∙◌}
use Rattle.gate_world.specs.declared.event.Event.{Event}
use Rattle.email_bodies.specs.Asking.{BodyAsk}
use Rattle.email_get.specs.Blobs.{FindsBlob, OctetsFound}
use Rattle.jmap_arguments.specs.declared.using.Using.{Using}
use Rattle.result_references.specs.Call.{CallData}
use Rattle.mail_maps.specs.Rows.{Rows}
use Rattle.gate_machine.specs.Progress.{Progress}
use Rattle.gate_calls.specs.Calling.{Asked, Body, CallsState, DoesCalls}
use Rattle.gate_calls.specs.Mailings.{Mailing, mail_at}
use Rattle.gate_calls.specs.Places.{HasPlaces}
use Rattle.gate_calls.proofs.Bodies.{bodies_keep_mail}
use Rattle.gate_calls.proofs.OneCourse.{bodies_in, same_bodies}
use Rattle.gate_serving.specs.Answers.{Answer, IsDownload, calls_text, found_answer, json_answer}
use Rattle.gate_serving.specs.Doing.{Answers, DoesDownload, DoesNothing, calls_begun, ids_told}
use Rattle.gate_serving.specs.Requests.{Account, Asking, Calls, Problem, Session, Upload, Download, Refused}

-- what is proved of a request's calls, and of blobs
abbrev pub CallsLaw : Type 0
CallsLaw = (uses : Using) (uploads : List (List ℕ)) (calls : List CallData) (s t after then : CallsState) (asks more also later : List Asked)
    (a b : List CallData) (es fs : List Event) → mail_at s.progress ≡ mail_at t.progress → s.created ≡ t.created → HasPlaces (mail_at s.progress)
    → DoesCalls uses uploads s calls asks a es after → DoesCalls uses uploads t calls also b fs then → asks ++ more ≡ also ++ later
    → (asks ≡ also) × (a ≡ b) × (after.created ≡ then.created) × (mail_at after.progress ≡ mail_at then.progress)

abbrev pub BlobLaw : Type 0
BlobLaw = (emails : Rows) (uploads : List (List ℕ)) (id : List ℕ) (asks more also later : List BodyAsk) (r s : OctetsFound) → FindsBlob emails uploads id asks r
    → FindsBlob emails uploads id also s → asks ++ more ≡ also ++ later → (asks ≡ also) × (r ≡ s)

-- what is asked, the answer, and the mail that is served after it
abbrev pub Same : List Asked → List Asked → Answer → Answer → Progress → Progress → Type 0
Same asks also x y after then = (asks ≡ also) × (x ≡ y) × (mail_at after ≡ mail_at then)

module _ (law : CallsLaw) (blobs : BlobLaw) where
  one_nothing : {due : Answer} (p q : Progress) (asks also : List Asked) (es fs : List Event) (x y : Answer) (after then : Progress) → mail_at p ≡ mail_at q
      → DoesNothing due p asks es x after → DoesNothing due q also fs y then → Same asks also x y after then
  one_nothing p q asks also es fs x y after then same_mail a b = (
    a.no_asks ∙ sym b.no_asks,
    a.answer_is ∙ sym b.answer_is,
    ap mail_at a.after_is ∙ same_mail ∙ sym (ap mail_at b.after_is),
  )

  one_found : (mail : Mailing) (uploads : List (List ℕ)) (blob : List ℕ) (media : Option (List ℕ)) (asks more also later : List BodyAsk) (x y : Answer)
      → IsDownload mail uploads blob media asks x → IsDownload mail uploads blob media also y → asks ++ more ≡ also ++ later → (asks ≡ also) × (x ≡ y)
  one_found (Ok h) uploads blob media asks more also later x y a b same =
      let found = blobs h.numbered.rows uploads blob asks more also later a.0 b.0 a.1 b.1 same in
      (found.0, a.2 ∙ ap (λ (o : OctetsFound). found_answer o media) found.1 ∙ sym b.2)
  one_found (Err e) uploads blob media asks more also later x y a b same = (a.0 ∙ sym b.0, a.1 ∙ sym b.1)

  one_download : (uploads : List (List ℕ)) (blob : List ℕ) (media : Option (List ℕ)) (p q : Progress) (asks more also later : List Asked) (es fs : List Event)
      (x y : Answer) (after then : Progress) → mail_at p ≡ mail_at q → DoesDownload uploads blob media p asks es x after
      → DoesDownload uploads blob media q also fs y then → asks ++ more ≡ also ++ later → Same asks also x y after then
  one_download uploads blob media p q asks more also later es fs x y after then same_mail a b same =
      let finds : IsDownload (mail_at p) uploads blob media b.bodies y =
      subst (λ (m : Mailing). IsDownload m uploads blob media b.bodies y) (sym same_mail) b.finds in
      let both = one_found (mail_at p) uploads blob media a.bodies (bodies_in more) b.bodies (bodies_in later) x y a.finds finds
      (same_bodies a.bodies b.bodies more later a.asks_are b.asks_are same) in (
        a.asks_are ∙ ap (λ (l : List BodyAsk). map Body l) both.0 ∙ sym b.asks_are,
        both.1,
        bodies_keep_mail a.asked ∙ same_mail ∙ sym (bodies_keep_mail b.asked),
      )

  -- over the same mail and uploads
  pub one_answer : (account : Account) (uploads : List (List ℕ)) (asking : Asking) (p q : Progress) (asks more also later : List Asked) (es fs : List Event)
      (x y : Answer) (after then : Progress) → mail_at p ≡ mail_at q → HasPlaces (mail_at p) → Answers account uploads asking p asks es x after
      → Answers account uploads asking q also fs y then → asks ++ more ≡ also ++ later → Same asks also x y after then
  one_answer account uploads (Calls request) p q asks more also later es fs x y after then same_mail room a b same =
      let both = law request.uses uploads request.calls (calls_begun request p) (calls_begun request q) a.done b.done asks more also later a.responses b.responses es fs
      same_mail refl room a.does b.does same in (
        both.0,
        a.answer_is ∙ (λ i. json_answer 200 (calls_text account.user account.base (both.1 i) (ids_told request.created (both.2 i)))) ∙ sym b.answer_is,
        ap mail_at a.after_is ∙ both.3 ∙ sym (ap mail_at b.after_is),
      )
  one_answer account uploads (Problem e) p q asks more also later es fs x y after then same_mail room a b same =
      one_nothing p q asks also es fs x y after then same_mail a b
  one_answer account uploads Session p q asks more also later es fs x y after then same_mail room a b same =
      one_nothing p q asks also es fs x y after then same_mail a b
  one_answer account uploads (Upload media octets) p q asks more also later es fs x y after then same_mail room a b same =
      one_nothing p q asks also es fs x y after then same_mail a b
  one_answer account uploads (Download blob media) p q asks more also later es fs x y after then same_mail room a b same =
      one_download uploads blob media p q asks more also later es fs x y after then same_mail a b same
  one_answer account uploads (Refused refusal) p q asks more also later es fs x y after then same_mail room a b same =
      one_nothing p q asks also es fs x y after then same_mail a b
