-- The header of a message that was written, as a reader finds it (RFC 5322 section 2.2).
use Rattle.std.specs.Prelude.{◌≡◌, ℕ, ℤ, List, ◌∷◌, ◌++◌, drop, map}
use Rattle.mail_drafts.specs.declared.draft.Draft.{Draft}
use Rattle.mail_header.specs.Fields.{NameAndRaw, IsHeader}
use Rattle.message_lines.specs.Folding.{Field, field_value}
use Rattle.message_texts.specs.Fields.{AreDraftFields}
use Rattle.message_texts.specs.Messages.{mime_version, draft_part}

-- a field as a header has it: its name and its raw value
abbrev pub read_field : Field → NameAndRaw
read_field f = (f.name, field_value f)

-- the fields of a message: those of its draft, MIME-Version and those of its part
abbrev pub message_fields : List Field → Draft → List Field
message_fields fields d = fields ++ mime_version ∷ (draft_part d).fields

-- the octets have these fields and no others in their header, and behind it the body of the draft's part
pub record HasItsHeader (d : Draft) (now : ℤ) (word : ℕ) (t : List ℕ) : Type 0 where
  pub fields : List Field
  pub are : AreDraftFields d now word fields
  pub end : ℕ
  pub header : IsHeader (map read_field (message_fields fields d)) end t
  pub body_is : drop end t ≡ (draft_part d).body
