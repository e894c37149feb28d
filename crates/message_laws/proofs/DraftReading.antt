-- A draft's date, subject and ids are found in its message.
use Rattle.std.proofs.Common.{◌≡◌, ℕ, ℤ, true, List, [], ◌∷◌, map, codes, Option, Some, None, refl, sym, ap, ◌∙◌, subst}
use Rattle.std.specs.List.{list_all}
use Rattle.std.proofs.lemmas.Bool.{and_parts}
use Rattle.header_dates.specs.Dates.{IsDateForm}
use Rattle.mail_drafts.specs.declared.draft.Draft.{Draft}
use Rattle.mail_drafts.specs.Drafts.{are_filled, are_identifiers}
use Rattle.mail_drafts.specs.Identifiers.{is_identifier}
use Rattle.mail_header.specs.Fields.{IsLastField}
use Rattle.mail_header.specs.RawForms.{IsTextForm}
use Rattle.message_lines.specs.Folding.{FieldPiece, Field, begun, laid}
use Rattle.message_lines.specs.Ids.{AreIdTexts}
use Rattle.message_lines.specs.Subjects.{IsSubject, shown_subject}
use Rattle.message_texts.specs.DateTexts.{IsDateText}
use Rattle.message_texts.specs.Fields.{IsWrittenField, IsWrittenFieldOf, date_or_now, ids_or_drawn}
use Rattle.message_texts.specs.Messages.{IsMessageText}
use Rattle.message_laws.specs.Headers.{HasItsHeader, read_field, message_fields}
use Rattle.message_laws.specs.ReadBack.{Reads, ReadsWhere, AreIdsOf, ReadsAsDraft}
use Rattle.message_laws.proofs.DateReading.{date_is_read}
use Rattle.message_laws.proofs.HeaderLines.{header_read}
use Rattle.message_laws.proofs.IdLines.{ids_read, drawn_read}
use Rattle.message_laws.proofs.LastFields.{last, Found, found, only_date, only_subject, only_message_id, only_in_reply_to, only_references}
use Rattle.message_laws.proofs.MessageLines.{near}
use Rattle.message_laws.proofs.SubjectReading.{subject_is_read}

-- the last field of a name, in the header of a message
last_field : (d : Draft) (now : ℤ) (word : ℕ) (t : List ℕ) (h : HasItsHeader d now word t) (name : List ℕ) (raw : Option (List ℕ)) → last name (message_fields h.fields d) ≡ raw → IsLastField name t raw
last_field d now word t h name raw e = record { fields = map read_field (message_fields h.fields d); end = h.end; is = h.header; raw_is = sym e }

-- a field that is always there
reads : (d : Draft) (now : ℤ) (word : ℕ) (t : List ℕ) (h : HasItsHeader d now word t) (Are : List FieldPiece → Type 0) (Means : List ℕ → Type 0) (name : List ℕ) (fs : List Field)
    → last name (message_fields h.fields d) ≡ last name fs → Found Are name fs → ((ps : List FieldPiece) → Are ps → Means (laid (begun name) ps)) → Reads name Means t
reads d now word t h Are Means name fs e f of = record {
  raw = laid (begun name) f.pieces;
  last = last_field d now word t h name (Some (laid (begun name) f.pieces)) (e ∙ f.last_is);
  means = of f.pieces f.are;
}

-- a field that is there where there is a value
reads_where : {X : Type 0} (d : Draft) (now : ℤ) (word : ℕ) (t : List ℕ) (h : HasItsHeader d now word t) (Are : X → List FieldPiece → Type 0) (Means : X → List ℕ → Type 0) (name : List ℕ)
    (fs : List Field) (value : Option X) → last name (message_fields h.fields d) ≡ last name fs → ((x : X) → IsWrittenField (Are x) name fs → Found (Are x) name fs)
    → IsWrittenFieldOf Are name value fs → ((x : X) → value ≡ Some x → (ps : List FieldPiece) → Are x ps → Means x (laid (begun name) ps)) → ReadsWhere name Means value t
reads_where d now word t h Are Means name fs None e is_found is of = last_field d now word t h name None (e ∙ ap (last name) is)
reads_where d now word t h Are Means name fs (Some x) e is_found is of = reads d now word t h (Are x) (Means x) name fs e (is_found x is) (of x refl)

-- ids of a draft's own
own_ids_read : (name : List ℕ) (given : Option (List (List ℕ))) → are_identifiers given ≡ true → (ids : List (List ℕ)) → given ≡ Some ids → (ps : List FieldPiece) → AreIdTexts ids ps
    → AreIdsOf ids (laid (begun name) ps)
own_ids_read name given e [] is ps are = let f : are_identifiers (Some []) ≡ true = subst (λ (o : Option (List (List ℕ))). are_identifiers o ≡ true) is e in absurd cc
own_ids_read name given e (id ∷ ids) is ps are =
    let f : are_identifiers (Some (id ∷ ids)) ≡ true = subst (λ (o : Option (List (List ℕ))). are_identifiers o ≡ true) is e in
    ids_read (begun name) (id ∷ ids) ps (λ (n : id ∷ ids ≡ []). cc) (and_parts (are_filled (Some (id ∷ ids))) (list_all is_identifier (id ∷ ids)) f).1 are

given_or_drawn : (word : ℕ) (given : Option (List (List ℕ))) → are_identifiers given ≡ true → (ps : List FieldPiece) → AreIdTexts (ids_or_drawn word given) ps
    → AreIdsOf (ids_or_drawn word given) (laid (begun (codes "Message-ID")) ps)
given_or_drawn word None e ps are = drawn_read (begun (codes "Message-ID")) word ps are
given_or_drawn word (Some ids) e ps are = own_ids_read (codes "Message-ID") (Some ids) e ids refl ps are

pub draft_is_read : (d : Draft) (now : ℤ) (word : ℕ) (t : List ℕ) → IsMessageText d now word t → ReadsAsDraft d now word t
draft_is_read d now word t is =
    let h = header_read d now word t is in
    let a = h.are in
    let m = date_or_now now d.date in
    let n = near now d.date in
    record {
      date = reads d now word t h (IsDateText m) (λ (raw : List ℕ). IsDateForm raw (Some m)) (codes "Date") a.date (only_date d now word h.fields a)
          (found (IsDateText m) (codes "Date") refl a.date a.is_date) (λ ps of. date_is_read (begun (codes "Date")) m ps n.west n.east of);
      subject = reads_where d now word t h (IsSubject (begun (codes "Subject"))) (λ (s raw : List ℕ). IsTextForm (shown_subject s) raw) (codes "Subject") a.subject d.subject
          (only_subject d now word h.fields a) (λ s of. found (IsSubject (begun (codes "Subject")) s) (codes "Subject") refl a.subject of) a.is_subject
          (λ s e ps of. subject_is_read (begun (codes "Subject")) s ps of);
      message_id = reads d now word t h (AreIdTexts (ids_or_drawn word d.message_id)) (AreIdsOf (ids_or_drawn word d.message_id)) (codes "Message-ID") a.message_id
          (only_message_id d now word h.fields a) (found (AreIdTexts (ids_or_drawn word d.message_id)) (codes "Message-ID") refl a.message_id a.is_message_id)
          (given_or_drawn word d.message_id d.message_id_is);
      in_reply_to = reads_where d now word t h AreIdTexts AreIdsOf (codes "In-Reply-To") a.in_reply_to d.in_reply_to (only_in_reply_to d now word h.fields a)
          (λ ids of. found (AreIdTexts ids) (codes "In-Reply-To") refl a.in_reply_to of) a.is_in_reply_to (own_ids_read (codes "In-Reply-To") d.in_reply_to d.in_reply_to_is);
      references = reads_where d now word t h AreIdTexts AreIdsOf (codes "References") a.references d.references (only_references d now word h.fields a)
          (λ ids of. found (AreIdTexts ids) (codes "References") refl a.references of) a.is_references (own_ids_read (codes "References") d.references d.references_is);
    }
