-- What a reader finds of a draft in its message.
use Rattle.std.specs.Prelude.{ℕ, ℤ, List, codes, Option, Some, None}
use Rattle.header_dates.specs.Dates.{IsDateForm}
use Rattle.mail_drafts.specs.declared.draft.Draft.{Draft}
use Rattle.mail_header.specs.Bracketed.{IsNamesForm}
use Rattle.mail_header.specs.Fields.{IsLastField}
use Rattle.mail_header.specs.RawForms.{IsTextForm}
use Rattle.message_lines.specs.Subjects.{shown_subject}
use Rattle.message_texts.specs.Fields.{date_or_now, ids_or_drawn}

-- the last field of this name has a raw value with this meaning
pub record Reads (name : List ℕ) (Means : List ℕ → Type 0) (t : List ℕ) : Type 0 where
  pub raw : List ℕ
  pub last : IsLastField name t (Some raw)
  pub means : Means raw

-- where there is a value; else no field has the name
abbrev pub ReadsWhere : {X : Type 0} → List ℕ → (X → List ℕ → Type 0) → Option X → List ℕ → Type 0
ReadsWhere name Means None t = IsLastField name t None
ReadsWhere name Means (Some x) t = Reads name (Means x) t

abbrev pub AreIdsOf : List (List ℕ) → List ℕ → Type 0
AreIdsOf ids raw = IsNamesForm (Some ids) raw

-- the date, the subject and the ids of the octets are those of the draft (RFC 8621 section 4.1.3)
pub record ReadsAsDraft (d : Draft) (now : ℤ) (word : ℕ) (t : List ℕ) : Type 0 where
  pub date : Reads (codes "Date") (λ (raw : List ℕ). IsDateForm raw (Some (date_or_now now d.date))) t
  pub subject : ReadsWhere (codes "Subject") (λ (s raw : List ℕ). IsTextForm (shown_subject s) raw) d.subject t
  pub message_id : Reads (codes "Message-ID") (AreIdsOf (ids_or_drawn word d.message_id)) t
  pub in_reply_to : ReadsWhere (codes "In-Reply-To") AreIdsOf d.in_reply_to t
  pub references : ReadsWhere (codes "References") AreIdsOf d.references t
