-- Uploads that are sought.
use Rattle.std.specs.Prelude.{◌≡◌, ◌≢◌, ℕ, Bool, List, [], is_some}
use Rattle.blob_store.specs.Uploads.{upload_with}
use Rattle.mail_drafts.specs.declared.error.BuildError.{BuildError}
use Rattle.mail_drafts.specs.declared.error.BuildError.TheVariants.{BadValue, BlobNotFound, TooLarge, Memory}
use Rattle.draft_reading.specs.Parts.{Attached}
use Rattle.draft_reading.specs.Readings.{missing}

abbrev pub is_kept : List (List ℕ) → Attached → Bool
is_kept uploads a = is_some (upload_with a.blob uploads)

-- uploads that attachments ask for and that aren't kept
pub record AreMissing (uploads : List (List ℕ)) (list : List Attached) (ids : List (List ℕ)) : Type 0 where
  pub ids_are : ids ≡ missing uploads list
  pub some : ids ≢ []

-- why attachments aren't given, want of memory aside
abbrev pub IsMissing : List (List ℕ) → List Attached → BuildError → Type 0
IsMissing uploads list (BlobNotFound ids) = AreMissing uploads list ids
IsMissing uploads list Memory = Unit {0}
IsMissing uploads list (BadValue property) = ⊥
IsMissing uploads list (TooLarge size) = ⊥
