use Rattle.std.proofs.Common.{ℕ, ◌∷◌, [], List, Vec, Global, map, take, sym, ap, ◌∙◌, subst}
use Rattle.std.specs.Borrow.{Bor}
use Rattle.std.proofs.lemmas.List.{map-append}
use Rattle.blob_store.specs.Uploads.{upload_with}
use Rattle.mail_drafts.specs.declared.attachment.Attachment.{Attachment}
use Rattle.draft_reading.specs.Parts.{Attached}
use Rattle.draft_reading.specs.reading.Views.{attached_view}
use Rattle.draft_reading.proofs.UploadLemmas.{Sought, asked_more, kept_one, missing_one}
use Rattle.draft_reading.proofs.attachments.seek_uploads.Goals as goal
use Rattle.draft_reading.proofs.attachments.seek_uploads.Goals.{in-Some+in_ok-attachment_of-in-Some+in_ok-push-in-Some, in-None+in_ok-push-in-None}

ids : List (Bor (List ℕ)) → List (List ℕ)
ids texts = map (λ (t : Bor (List ℕ)). t.now) texts

pub loop-one-preserved : goal.loop-one-preserved
unfolding ids
loop-one-preserved c =
    let l = c.loop-one in
    let blobs = c.args.blobs.now in
    let asked = c.args.asked.now in
    let one = c.one-item.result in
    let before = map attached_view (take l.one-index asked) in
    let found = c.match-get.found.items in
    let missing = ids c.match-get.missing.items in
    let same = asked_more asked l.one-index one c.loop-one-test.true c.one-item.is in
    let id = ap (λ (t : List ℕ). upload_with t blobs) (sym c.as_bytes.ensures.value) in
    subst (λ (list : List Attached). Sought blobs list found missing) (sym same) (elim c.match-get.branch [
      | in-Some+in_ok-attachment_of-in-Some+in_ok-push-in-Some w ↦
          let x = w.in_ok-attachment_of-in-Some.field-0 in
          kept_one blobs before l.found.items found (ids l.missing.items) missing (attached_view one) x l.invariant (w.in_ok-attachment_of-in-Some.ensures blobs (id ∙ w.in-Some.ensures))
          (ap (λ (v : Vec Attachment Global). v.items) w.found-is ∙ w.in_ok-push-in-Some.ensures.items) (ap (λ (v : Vec (Bor (List ℕ)) Global). ids v.items) w.missing-is)
      | in-None+in_ok-push-in-None w ↦
          missing_one blobs before l.found.items found (ids l.missing.items) missing (attached_view one) l.invariant (id ∙ w.in-None.ensures)
          (ap (λ (v : Vec Attachment Global). v.items) w.found-is)
          (ap (λ (v : Vec (Bor (List ℕ)) Global). ids v.items) w.missing-is ∙ ap ids w.in_ok-push-in-None.ensures.items ∙ map-append (λ (t : Bor (List ℕ)). t.now) l.missing.items (one.blob ∷ []))
    ])
