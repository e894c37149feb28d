-- The message of a draft as it is written.
use Rattle.std.specs.Prelude.{◌≡◌, ◌<◌, ◌-◌, ◌^◌, ℕ, ℤ, min, List, [], ◌∷◌, ◌++◌, length, codes}
use Rattle.mail_drafts.specs.declared.draft.Draft.{Draft}
use Rattle.mail_drafts.specs.declared.error.BuildError.{BuildError}
use Rattle.mail_drafts.specs.declared.error.BuildError.TheVariants.{BadValue, BlobNotFound, TooLarge, Memory}
use Rattle.message_lines.specs.Folding.{Field, field}
use Rattle.message_texts.specs.Parts.{Entity, entity_text, shown_part, whole_part}
use Rattle.message_texts.specs.Fields.{AreDraftFields}

abbrev pub draft_part : Draft → Entity
draft_part d = whole_part (shown_part d.text d.html) d.attachments

abbrev pub mime_version : Field
mime_version = field (codes "MIME-Version") (codes "1.0" ∷ [])

-- the part with these fields before its own
abbrev pub with_fields : List Field → Entity → Entity
with_fields fields e = record { fields = fields ++ mime_version ∷ e.fields; body = e.body }

-- what a draft is written as
pub record IsMessageText (d : Draft) (now : ℤ) (word : ℕ) (text : List ℕ) : Type 0 where
  pub fields : List Field
  pub are : AreDraftFields d now word fields
  pub text_is : text ≡ entity_text (with_fields fields (draft_part d))

-- the message has more octets than a message may have; the size is told as far as a number of 64 bits can
pub record IsTooLarge (limit : ℕ) (d : Draft) (now : ℤ) (word size : ℕ) : Type 0 where
  pub text : List ℕ
  pub is : IsMessageText d now word text
  pub longer : limit < length text
  pub size_is : size ≡ min (length text) (2 ^ 64 - 1)

-- why no message is given, want of memory aside: it would be too large
abbrev pub IsBuildFailure : ℕ → Draft → ℤ → ℕ → BuildError → Type 0
IsBuildFailure limit d now word (TooLarge size) = IsTooLarge limit d now word size
IsBuildFailure limit d now word Memory = Unit {0}
IsBuildFailure limit d now word (BadValue property) = ⊥
IsBuildFailure limit d now word (BlobNotFound ids) = ⊥
