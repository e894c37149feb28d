-- The fields of a draft's own as they are written, in order (RFC 5322 section 3.6).
use Rattle.std.specs.Prelude.{◌≡◌, ℕ, ℤ, List, [], ◌∷◌, ◌++◌, codes, Option, Some, None}
use Rattle.header_dates.specs.declared.date.Moment.{Moment}
use Rattle.zoned_moments.specs.declared.moments.ZonedMoment.{ZonedMoment}
use Rattle.zoned_moments.specs.Zoned.{utc_moment}
use Rattle.mail_drafts.specs.declared.draft.Draft.{Draft}
use Rattle.mail_drafts.specs.declared.mailbox.Mailbox.{Mailbox}
use Rattle.message_lines.specs.Folding.{FieldPiece, Field, begun, fields_text}
use Rattle.message_texts.specs.DateTexts.{IsDateText}
use Rattle.message_lines.specs.Subjects.{IsSubject}
use Rattle.message_texts.specs.AddressTexts.{AreAddressTexts}
use Rattle.message_lines.specs.Ids.{AreIdTexts, drawn_id}

-- the moment of a draft's date; `now` is the present second
abbrev pub date_or_now : ℤ → Option ZonedMoment → Moment
date_or_now now None = utc_moment now
date_or_now now (Some z) = z.moment

-- its own ids, or one that is drawn
abbrev pub ids_or_drawn : ℕ → Option (List (List ℕ)) → List (List ℕ)
ids_or_drawn word None = drawn_id word ∷ []
ids_or_drawn word (Some ids) = ids

-- fields of this kind follow in a text
pub record AddsFields (Are : List Field → Type 0) (before text : List ℕ) : Type 0 where
  pub fields : List Field
  pub are : Are fields
  pub text_is : text ≡ before ++ fields_text fields

-- a field of this name, whose pieces are of this kind
abbrev pub IsWrittenField : (List FieldPiece → Type 0) → List ℕ → List Field → Type 0
IsWrittenField Are name fields = (pieces : List FieldPiece) × Are pieces × (fields ≡ record { name = name; pieces = pieces } ∷ [])

-- such a field where there is a value
abbrev pub IsWrittenFieldOf : {X : Type 0} → (X → List FieldPiece → Type 0) → List ℕ → Option X → List Field → Type 0
IsWrittenFieldOf Are name None fields = fields ≡ []
IsWrittenFieldOf Are name (Some x) fields = IsWrittenField (Are x) name fields

abbrev pub AreAddressFields : List ℕ → Option (List Mailbox) → List Field → Type 0
AreAddressFields name list fields = IsWrittenFieldOf (AreAddressTexts (begun name)) name list fields

abbrev pub AreIdFields : List ℕ → Option (List (List ℕ)) → List Field → Type 0
AreIdFields name ids fields = IsWrittenFieldOf AreIdTexts name ids fields

-- The fields of a draft; `now` is the present second, and `word` was drawn for its id.
pub record AreDraftFields (d : Draft) (now : ℤ) (word : ℕ) (fields : List Field) : Type 0 where
  pub date : List Field
  pub from : List Field
  pub sender : List Field
  pub reply_to : List Field
  pub to : List Field
  pub cc : List Field
  pub bcc : List Field
  pub subject : List Field
  pub message_id : List Field
  pub in_reply_to : List Field
  pub references : List Field
  pub whole : fields ≡ date ++ from ++ sender ++ reply_to ++ to ++ cc ++ bcc ++ subject ++ message_id ++ in_reply_to ++ references
  pub is_date : IsWrittenField (IsDateText (date_or_now now d.date)) (codes "Date") date
  pub is_from : AreAddressFields (codes "From") d.from from
  pub is_sender : AreAddressFields (codes "Sender") d.sender sender
  pub is_reply_to : AreAddressFields (codes "Reply-To") d.reply_to reply_to
  pub is_to : AreAddressFields (codes "To") d.to to
  pub is_cc : AreAddressFields (codes "Cc") d.cc cc
  pub is_bcc : AreAddressFields (codes "Bcc") d.bcc bcc
  pub is_subject : IsWrittenFieldOf (IsSubject (begun (codes "Subject"))) (codes "Subject") d.subject subject
  pub is_message_id : IsWrittenField (AreIdTexts (ids_or_drawn word d.message_id)) (codes "Message-ID") message_id
  pub is_in_reply_to : AreIdFields (codes "In-Reply-To") d.in_reply_to in_reply_to
  pub is_references : AreIdFields (codes "References") d.references references
