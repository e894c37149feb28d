-- The bodies that are asked for what is shown or found are due.
use Rattle.std.proofs.Common.{ℕ, List, [], ◌∷◌, Option, Some, None, Result, Ok, Err}
use Rattle.serde_json.specs.Data.{Data}
use Rattle.email_bodies.specs.Asking.{BodyAsk, AreDue}
use Rattle.email_bodies.specs.declared.error.BodyError.TheVariants.{Ended}
use Rattle.email_bodies.proofs.Due.{none_due, one_due, due_more, due_after}
use Rattle.email_properties.specs.Wanted.{EmailAsked}
use Rattle.jmap_arguments.specs.Gets.{distinct_ids}
use Rattle.jmap_arguments.specs.declared.method_error.MethodError.{MethodError}
use Rattle.jmap_arguments.specs.declared.method_error.MethodError.TheVariants.{ServerUnavailable}
use Rattle.mail_maps.specs.Rows.{Rows}
use Rattle.mail_maps.specs.declared.row.EmailRow.{EmailRow}
use Rattle.message_blobs.specs.BlobIds.{BlobRoot}
use Rattle.email_get.specs.Asked.{FailsAfter, ask_for, error_by}
use Rattle.email_get.specs.Blobs.{FindsRoot, OfTheUploads, NoSuchEmail, BodyComes, BodyLacks, FindsLeaf, FindsOctets, FindsBlob, NoBlobId, OfBlobId, OctetsFound}
use Rattle.email_get.specs.Blobs as blobs
use Rattle.email_get.specs.EmailGet.{AsksBody, NotNeeded, Comes, Lacks, ShowsRow, AsObject, ShowsEmail, AnswersEmailGet}
use Rattle.email_get.specs.EmailGet as get
use Rattle.email_get.specs.EmailParse.{ShownBlob, ShowsBlob, NotFound, Parsed, AnswersEmailParse}
use Rattle.email_get.specs.EmailParse as parse
use Rattle.email_get.specs.Showing.{ShowsAll, NoneLeft, OneShown, OneFails}

-- ---- Emails

-- the body of one
pub due_body : (wanted : EmailAsked) (row : EmailRow) {asks : List BodyAsk} {r : Result (Option (List ℕ)) MethodError} → AsksBody wanted row asks r
    → AreDue (FailsAfter (ShowsRow wanted row)) asks
due_body wanted row (NotNeeded none) = none_due (FailsAfter (ShowsRow wanted row))
due_body wanted row (Comes octets needs) =
    one_due (FailsAfter (ShowsRow wanted row)) (ask_for row (Some octets)) (ServerUnavailable, get.NoBody ServerUnavailable (Lacks needs))
due_body wanted row (Lacks needs) = one_due (FailsAfter (ShowsRow wanted row)) (ask_for row None) (ServerUnavailable, get.NoBody ServerUnavailable (Lacks needs))

pub due_row : (wanted : EmailAsked) (row : EmailRow) {asks : List BodyAsk} {r : Result Data MethodError} → ShowsRow wanted row asks r
    → AreDue (FailsAfter (ShowsRow wanted row)) asks
due_row wanted row (AsObject body object asks is) = due_body wanted row asks
due_row wanted row (get.NoBody e asks) = due_body wanted row asks

pub due_email : (emails : Rows) (wanted : EmailAsked) (n : ℕ) (asks : List BodyAsk) (r : Result Data MethodError) → ShowsEmail emails wanted n asks r
    → AreDue (FailsAfter (ShowsEmail emails wanted n)) asks
due_email emails wanted n asks r shows =
    due_more (FailsAfter (ShowsRow wanted shows.row)) (FailsAfter (ShowsEmail emails wanted n)) asks
    (λ more fails. (fails.0, record { row = shows.row; there = shows.there; shows = fails.1 })) (due_row wanted shows.row shows.shows)

-- ---- blobs

pub due_root : (emails : Rows) (uploads : List (List ℕ)) (root : BlobRoot) {asks : List BodyAsk} {r : OctetsFound} → FindsRoot emails uploads root asks r
    → AreDue (FailsAfter (FindsRoot emails uploads root)) asks
due_root emails uploads root (OfTheUploads id found is) = none_due (FailsAfter (FindsRoot emails uploads root))
due_root emails uploads root (NoSuchEmail n gone) = none_due (FailsAfter (FindsRoot emails uploads root))
due_root emails uploads root (BodyComes n row octets there) = one_due (FailsAfter (FindsRoot emails uploads root)) (ask_for row (Some octets)) (Ended, BodyLacks n row there)
due_root emails uploads root (BodyLacks n row there) = one_due (FailsAfter (FindsRoot emails uploads root)) (ask_for row None) (Ended, BodyLacks n row there)

pub due_octets_of : (emails : Rows) (uploads : List (List ℕ)) (root : BlobRoot) (leaves : List ℕ) {asks : List BodyAsk} {r : OctetsFound} → FindsRoot emails uploads root asks r
    → AreDue (FailsAfter (FindsOctets emails uploads root leaves)) asks
due_octets_of emails uploads root leaves {asks} finds =
    due_more (FailsAfter (FindsRoot emails uploads root)) (FailsAfter (FindsOctets emails uploads root leaves)) asks
    (λ more fails. (fails.0, record { of_root = Err fails.0; finds_root = fails.1; finds_leaf = blobs.NoBody fails.0 })) (due_root emails uploads root finds)

pub due_blob : (emails : Rows) (uploads : List (List ℕ)) (id : List ℕ) (asks : List BodyAsk) (r : OctetsFound) → FindsBlob emails uploads id asks r
    → AreDue (FailsAfter (FindsBlob emails uploads id)) asks
due_blob emails uploads id asks r (NoBlobId none) = none_due (FailsAfter (FindsBlob emails uploads id))
due_blob emails uploads id asks r (OfBlobId root leaves is finds) =
    due_more (FailsAfter (FindsOctets emails uploads root leaves)) (FailsAfter (FindsBlob emails uploads id)) asks
    (λ more fails. (fails.0, OfBlobId root leaves is fails.1)) (due_octets_of emails uploads root leaves finds.finds_root)

pub blob_due : (emails : Rows) (uploads : List (List ℕ)) (wanted : EmailAsked) (id : List ℕ) (asks : List BodyAsk) (r : OctetsFound) → FindsBlob emails uploads id asks r
    → AreDue (FailsAfter (ShowsBlob emails uploads wanted id)) asks
blob_due emails uploads wanted id asks r finds =
    due_more (FailsAfter (FindsBlob emails uploads id)) (FailsAfter (ShowsBlob emails uploads wanted id)) asks
    (λ more fails. (error_by fails.0, parse.NoBody fails.0 fails.1)) (due_blob emails uploads id asks r finds)

pub due_shown_blob : (emails : Rows) (uploads : List (List ℕ)) (wanted : EmailAsked) (id : List ℕ) (asks : List BodyAsk) (r : Result ShownBlob MethodError)
    → ShowsBlob emails uploads wanted id asks r → AreDue (FailsAfter (ShowsBlob emails uploads wanted id)) asks
due_shown_blob emails uploads wanted id asks r (NotFound finds) = blob_due emails uploads wanted id asks (Ok None) finds
due_shown_blob emails uploads wanted id asks r (Parsed message b) =
    blob_due emails uploads wanted id asks (Ok (Some b.octets)) (OfBlobId b.root b.leaves b.is_id b.finds)
due_shown_blob emails uploads wanted id asks r (parse.NoBody e finds) = blob_due emails uploads wanted id asks (Err e) finds

-- ---- one after another

module _ {A D E : Type 0} (Shows : A → List BodyAsk → Result D E → Type 0)
    (each : (x : A) (asks : List BodyAsk) (r : Result D E) → Shows x asks r → AreDue (FailsAfter (Shows x)) asks) where
  pub due_showing : (xs : List A) (asks : List BodyAsk) (r : Result (List D) E) → ShowsAll Shows xs asks r → AreDue (FailsAfter (ShowsAll Shows xs)) asks
  due_showing _ _ _ NoneLeft = none_due (FailsAfter (ShowsAll Shows []))
  due_showing _ _ _ (OneShown {xs = xs} {asks = asks} {more = more} {rest = rest} x d first others) =
      due_after (FailsAfter (ShowsAll Shows xs)) (FailsAfter (ShowsAll Shows (x ∷ xs))) asks more
      (due_more (FailsAfter (Shows x)) (FailsAfter (ShowsAll Shows (x ∷ xs))) asks (λ l fails. (fails.0, OneFails x xs fails.0 fails.1)) (each x asks (Ok d) first))
      (λ l fails. (fails.0, OneShown x d first fails.1)) (due_showing xs more rest others)
  due_showing _ _ _ (OneFails {asks = asks} x xs e first) =
      due_more (FailsAfter (Shows x)) (FailsAfter (ShowsAll Shows (x ∷ xs))) asks (λ l fails. (fails.0, OneFails x xs fails.0 fails.1)) (each x asks (Err e) first)

-- ---- answers

pub due_get : (state : List ℕ) (emails : Rows) (d : Data) (asks : List BodyAsk) (r : Result Data MethodError) → AnswersEmailGet state emails d asks r
    → AreDue (FailsAfter (AnswersEmailGet state emails d)) asks
due_get state emails d asks r (get.Refused e is) = none_due (FailsAfter (AnswersEmailGet state emails d))
due_get state emails d asks r (get.Shown a list is shows) =
    due_more (FailsAfter (ShowsAll (ShowsEmail emails a.wanted) a.asked.numbers)) (FailsAfter (AnswersEmailGet state emails d)) asks
    (λ more fails. (fails.0, get.Fails a fails.0 is fails.1))
    (due_showing (ShowsEmail emails a.wanted) (due_email emails a.wanted) a.asked.numbers asks (Ok list) shows)
due_get state emails d asks r (get.Fails a e is shows) =
    due_more (FailsAfter (ShowsAll (ShowsEmail emails a.wanted) a.asked.numbers)) (FailsAfter (AnswersEmailGet state emails d)) asks
    (λ more fails. (fails.0, get.Fails a fails.0 is fails.1))
    (due_showing (ShowsEmail emails a.wanted) (due_email emails a.wanted) a.asked.numbers asks (Err e) shows)

pub due_parse : (emails : Rows) (uploads : List (List ℕ)) (d : Data) (asks : List BodyAsk) (r : Result Data MethodError) → AnswersEmailParse emails uploads d asks r
    → AreDue (FailsAfter (AnswersEmailParse emails uploads d)) asks
due_parse emails uploads d asks r (parse.Refused e is) = none_due (FailsAfter (AnswersEmailParse emails uploads d))
due_parse emails uploads d asks r (parse.Shown a shown is shows) =
    due_more (FailsAfter (ShowsAll (ShowsBlob emails uploads a.wanted) (distinct_ids a.ids))) (FailsAfter (AnswersEmailParse emails uploads d)) asks
    (λ more fails. (fails.0, parse.Fails a fails.0 is fails.1))
    (due_showing (ShowsBlob emails uploads a.wanted) (due_shown_blob emails uploads a.wanted) (distinct_ids a.ids) asks (Ok shown) shows)
due_parse emails uploads d asks r (parse.Fails a e is shows) =
    due_more (FailsAfter (ShowsAll (ShowsBlob emails uploads a.wanted) (distinct_ids a.ids))) (FailsAfter (AnswersEmailParse emails uploads d)) asks
    (λ more fails. (fails.0, parse.Fails a fails.0 is fails.1))
    (due_showing (ShowsBlob emails uploads a.wanted) (due_shown_blob emails uploads a.wanted) (distinct_ids a.ids) asks (Err e) shows)
