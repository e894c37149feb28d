-- Which field of a message is the last of its name.
use Rattle.std.proofs.Common.{◌≡◌, ℕ, ℤ, Bool, true, false, not, List, [], ◌∷◌, ◌++◌, map, codes, Option, Some, None, refl, sym, ap, ◌∙◌}
use Rattle.std.proofs.lemmas.Bool.{cond-true, cond-false}
use Rattle.std.proofs.lemmas.List.{map-append}
use Rattle.text_words.specs.Cuts.{Each}
use Rattle.text_words.specs.Octets.{is_same_text}
use Rattle.mail_header.specs.Fields.{NameAndRaw, later_or, last_named}
use Rattle.mail_drafts.specs.declared.attachment.Attachment.{Attachment}
use Rattle.mail_drafts.specs.declared.draft.Draft.{Draft}
use Rattle.mail_drafts.specs.declared.mailbox.Mailbox.{Mailbox}
use Rattle.message_lines.specs.Folding.{FieldPiece, Field, begun, field_value}
use Rattle.message_lines.specs.Ids.{AreIdTexts}
use Rattle.message_lines.specs.Subjects.{IsSubject}
use Rattle.message_texts.specs.AddressTexts.{AreAddressTexts}
use Rattle.message_texts.specs.DateTexts.{IsDateText}
use Rattle.message_texts.specs.Fields.{IsWrittenField, IsWrittenFieldOf, AreAddressFields, AreDraftFields, date_or_now, ids_or_drawn}
use Rattle.message_texts.specs.Messages.{draft_part, mime_version}
use Rattle.message_texts.specs.Parts.{text_leaf, alternative, mixed, shown_part, whole_part}
use Rattle.message_laws.specs.Headers.{read_field, message_fields}

-- ---- lists of fields

-- the first of two values that is there
abbrev or_else : Option (List ℕ) → Option (List ℕ) → Option (List ℕ)
or_else None o = o
or_else (Some x) o = Some x

or_none : (o : Option (List ℕ)) → or_else o None ≡ o
or_none None = refl
or_none (Some x) = refl

last_of : (n : List ℕ) (fs gs : List NameAndRaw) → last_named n (fs ++ gs) ≡ or_else (last_named n gs) (last_named n fs)
last_of n [] gs = sym (or_none (last_named n gs))
last_of n (f ∷ fs) gs =
    ap (λ (o : Option (List ℕ)). later_or o (is_same_text f.0 n) f.1) (last_of n fs gs) ∙ by (last_named n gs)
  where
    by : (o : Option (List ℕ)) → later_or (or_else o (last_named n fs)) (is_same_text f.0 n) f.1 ≡ or_else o (later_or (last_named n fs) (is_same_text f.0 n) f.1)
    by None = refl
    by (Some x) = refl

-- the raw value of the last field of the name
abbrev pub last : List ℕ → List Field → Option (List ℕ)
last n fs = last_named n (map read_field fs)

last_append : (n : List ℕ) (fs gs : List Field) → last n (fs ++ gs) ≡ or_else (last n gs) (last n fs)
last_append n fs gs = ap (last_named n) (map-append read_field fs gs) ∙ last_of n (map read_field fs) (map read_field gs)

-- nothing of the name behind, or before
pass : (n : List ℕ) (fs gs : List Field) → last n gs ≡ None → last n (fs ++ gs) ≡ last n fs
pass n fs gs e = last_append n fs gs ∙ ap (λ (o : Option (List ℕ)). or_else o (last n fs)) e

front : (n : List ℕ) (fs gs : List Field) → last n fs ≡ None → last n (fs ++ gs) ≡ last n gs
front n fs gs e = last_append n fs gs ∙ ap (λ (o : Option (List ℕ)). or_else (last n gs) o) e ∙ or_none (last n gs)

-- rows of fields behind one another
abbrev joined : List Field → List (List Field) → List Field
joined fs [] = fs
joined fs (gs ∷ more) = joined (fs ++ gs) more

-- no field of the name is in a row
abbrev AllAbsent : List ℕ → List (List Field) → Type 0
AllAbsent n [] = Unit {0}
AllAbsent n (gs ∷ more) = (last n gs ≡ None) × AllAbsent n more

behind : (n : List ℕ) (fs : List Field) (more : List (List Field)) → AllAbsent n more → last n (joined fs more) ≡ last n fs
behind n fs [] a = refl
behind n fs (gs ∷ more) a = behind n (fs ++ gs) more a.1 ∙ pass n fs gs a.0

among : (n : List ℕ) (fs : List Field) (rows : List (List Field)) (gs : List Field) (more : List (List Field)) → last n fs ≡ None → AllAbsent n rows → AllAbsent n more
    → last n (joined fs (rows ++ gs ∷ more)) ≡ last n gs
among n fs [] gs more e a b = behind n (fs ++ gs) more b ∙ front n fs gs e
among n fs (hs ∷ rows) gs more e a b = among n (fs ++ hs) rows gs more (front n fs hs e ∙ a.0) a.1 b

-- ---- one field

-- a field of another name
absent : (Are : List FieldPiece → Type 0) (name n : List ℕ) → is_same_text name n ≡ false → (fs : List Field) → IsWrittenField Are name fs → last n fs ≡ None
absent Are name n other fs (ps, is, e) =
    let f : Field = record { name = name; pieces = ps } in
    ap (last n) e ∙ cond-false (is_same_text name n) (Some (field_value f)) None other

absent_of : {X : Type 0} (Are : X → List FieldPiece → Type 0) (name n : List ℕ) → is_same_text name n ≡ false → (value : Option X) (fs : List Field) → IsWrittenFieldOf Are name value fs
    → last n fs ≡ None
absent_of Are name n other None fs e = ap (last n) e
absent_of Are name n other (Some x) fs is = absent (Are x) name n other fs is

-- the field itself
pub record Found (Are : List FieldPiece → Type 0) (name : List ℕ) (fs : List Field) : Type 0 where
  pub pieces : List FieldPiece
  pub are : Are pieces
  pub last_is : last name fs ≡ Some (field_value (record { name = name; pieces = pieces }))

pub found : (Are : List FieldPiece → Type 0) (name : List ℕ) → is_same_text name name ≡ true → (fs : List Field) → IsWrittenField Are name fs → Found Are name fs
found Are name same fs (ps, is, e) = record {
  pieces = ps;
  are = is;
  last_is = ap (last name) e ∙ cond-true (is_same_text name name) (Some (field_value (record { name = name; pieces = ps }))) None same;
}

-- ---- the fields of a part

-- fields of other names
others : (n : List ℕ) (fs : List Field) → Each (λ (f : Field). not (is_same_text f.name n)) fs → last n fs ≡ None
others n [] e = refl
others n (f ∷ fs) e = by (is_same_text f.name n) e.0 (last n fs) (others n fs e.1)
  where
    by : (b : Bool) → not b ≡ true → (o : Option (List ℕ)) → o ≡ None → later_or o b (field_value f) ≡ None
    by true g o h = absurd cc
    by false g o h = ap (λ (p : Option (List ℕ)). later_or p false (field_value f)) h

part_absent : (n : List ℕ) → is_same_text (codes "MIME-Version") n ≡ false → is_same_text (codes "Content-Type") n ≡ false
    → is_same_text (codes "Content-Transfer-Encoding") n ≡ false → (text html : Option (List ℕ)) (list : List Attachment)
    → last n (mime_version ∷ (whole_part (shown_part text html) list).fields) ≡ None
unfolding text_leaf alternative mixed
part_absent n v t e None None [] = others n (mime_version ∷ (whole_part (shown_part None None) []).fields) (ap not v, (ap not t, (ap not e, tt)))
part_absent n v t e (Some x) None [] = others n (mime_version ∷ (whole_part (shown_part (Some x) None) []).fields) (ap not v, (ap not t, (ap not e, tt)))
part_absent n v t e None (Some y) [] = others n (mime_version ∷ (whole_part (shown_part None (Some y)) []).fields) (ap not v, (ap not t, (ap not e, tt)))
part_absent n v t e (Some x) (Some y) [] = others n (mime_version ∷ (whole_part (shown_part (Some x) (Some y)) []).fields) (ap not v, (ap not t, tt))
part_absent n v t e text html (a ∷ list) = others n (mime_version ∷ (whole_part (shown_part text html) (a ∷ list)).fields) (ap not v, (ap not t, tt))

-- ---- the fields of a draft, of which each name is that of one alone

-- another name than those of addresses, and of parts
abbrev IsOther : List ℕ → Type 0
IsOther n =
    (is_same_text (codes "From") n ≡ false) × (is_same_text (codes "Sender") n ≡ false) × (is_same_text (codes "Reply-To") n ≡ false) × (is_same_text (codes "To") n ≡ false)
    × (is_same_text (codes "Cc") n ≡ false) × (is_same_text (codes "Bcc") n ≡ false) × (is_same_text (codes "MIME-Version") n ≡ false)
    × (is_same_text (codes "Content-Type") n ≡ false) × (is_same_text (codes "Content-Transfer-Encoding") n ≡ false)

no_address : (d : Draft) (now : ℤ) (word : ℕ) (fs : List Field) (a : AreDraftFields d now word fs) (n name : List ℕ) → is_same_text name n ≡ false → (list : Option (List Mailbox))
    (gs : List Field) → AreAddressFields name list gs → last n gs ≡ None
no_address d now word fs a n name e list gs is = absent_of (AreAddressTexts (begun name)) name n e list gs is

no_part : (d : Draft) (n : List ℕ) → IsOther n → last n (mime_version ∷ (draft_part d).fields) ≡ None
no_part d n o = part_absent n o.6 o.7 o.8 d.text d.html d.attachments

-- the rows of addresses, and those behind them
abbrev addresses : {d : Draft} {now : ℤ} {word : ℕ} {fs : List Field} → AreDraftFields d now word fs → List (List Field) → List (List Field)
addresses a more = a.from ∷ a.sender ∷ a.reply_to ∷ a.to ∷ a.cc ∷ a.bcc ∷ more

no_addresses : (d : Draft) (now : ℤ) (word : ℕ) (fs : List Field) (a : AreDraftFields d now word fs) (n : List ℕ) → IsOther n → (more : List (List Field)) → AllAbsent n more
    → AllAbsent n (addresses a more)
no_addresses d now word fs a n o more rest =
    let none = no_address d now word fs a n in (
      none (codes "From") o.0 d.from a.from a.is_from,
      (
        none (codes "Sender") o.1 d.sender a.sender a.is_sender,
        (
          none (codes "Reply-To") o.2 d.reply_to a.reply_to a.is_reply_to,
          (none (codes "To") o.3 d.to a.to a.is_to, (none (codes "Cc") o.4 d.cc a.cc a.is_cc, (none (codes "Bcc") o.5 d.bcc a.bcc a.is_bcc, rest))),
        ),
      ),
    )

-- the row behind those of a draft
abbrev of_part : Draft → List (List Field)
of_part d = (mime_version ∷ (draft_part d).fields) ∷ []

no_date : (d : Draft) (now : ℤ) (word : ℕ) (fs : List Field) (a : AreDraftFields d now word fs) (n : List ℕ) → is_same_text (codes "Date") n ≡ false → last n a.date ≡ None
no_date d now word fs a n e = absent (IsDateText (date_or_now now d.date)) (codes "Date") n e a.date a.is_date

no_subject : (d : Draft) (now : ℤ) (word : ℕ) (fs : List Field) (a : AreDraftFields d now word fs) (n : List ℕ) → is_same_text (codes "Subject") n ≡ false → last n a.subject ≡ None
no_subject d now word fs a n e = absent_of (IsSubject (begun (codes "Subject"))) (codes "Subject") n e d.subject a.subject a.is_subject

no_own_id : (d : Draft) (now : ℤ) (word : ℕ) (fs : List Field) (a : AreDraftFields d now word fs) (n : List ℕ) → is_same_text (codes "Message-ID") n ≡ false
    → last n a.message_id ≡ None
no_own_id d now word fs a n e = absent (AreIdTexts (ids_or_drawn word d.message_id)) (codes "Message-ID") n e a.message_id a.is_message_id

no_reply : (d : Draft) (now : ℤ) (word : ℕ) (fs : List Field) (a : AreDraftFields d now word fs) (n : List ℕ) → is_same_text (codes "In-Reply-To") n ≡ false
    → last n a.in_reply_to ≡ None
no_reply d now word fs a n e = absent_of AreIdTexts (codes "In-Reply-To") n e d.in_reply_to a.in_reply_to a.is_in_reply_to

no_references : (d : Draft) (now : ℤ) (word : ℕ) (fs : List Field) (a : AreDraftFields d now word fs) (n : List ℕ) → is_same_text (codes "References") n ≡ false
    → last n a.references ≡ None
no_references d now word fs a n e = absent_of AreIdTexts (codes "References") n e d.references a.references a.is_references

-- the fields of the message, row by row
rows : (d : Draft) (now : ℤ) (word : ℕ) (fs : List Field) (a : AreDraftFields d now word fs) (n : List ℕ)
    → last n (message_fields fs d)
    ≡ last n (joined a.date (addresses a (a.subject ∷ a.message_id ∷ a.in_reply_to ∷ a.references ∷ of_part d)))
rows d now word fs a n = ap (λ (gs : List Field). last n (gs ++ mime_version ∷ (draft_part d).fields)) a.whole

pub only_date : (d : Draft) (now : ℤ) (word : ℕ) (fs : List Field) (a : AreDraftFields d now word fs) → last (codes "Date") (message_fields fs d) ≡ last (codes "Date") a.date
only_date d now word fs a =
    let n = codes "Date" in
    let o : IsOther n = (refl, refl, refl, refl, refl, refl, refl, refl, refl) in
    rows d now word fs a n
    ∙ behind n a.date (addresses a (a.subject ∷ a.message_id ∷ a.in_reply_to ∷ a.references ∷ of_part d))
    (no_addresses d now word fs a n o (a.subject ∷ a.message_id ∷ a.in_reply_to ∷ a.references ∷ of_part d)
    (no_subject d now word fs a n refl, (no_own_id d now word fs a n refl, (no_reply d now word fs a n refl, (no_references d now word fs a n refl, (no_part d n o, tt))))))

pub only_subject : (d : Draft) (now : ℤ) (word : ℕ) (fs : List Field) (a : AreDraftFields d now word fs)
    → last (codes "Subject") (message_fields fs d) ≡ last (codes "Subject") a.subject
only_subject d now word fs a =
    let n = codes "Subject" in
    let o : IsOther n = (refl, refl, refl, refl, refl, refl, refl, refl, refl) in
    rows d now word fs a n
    ∙ among n a.date (addresses a []) a.subject (a.message_id ∷ a.in_reply_to ∷ a.references ∷ of_part d) (no_date d now word fs a n refl)
    (no_addresses d now word fs a n o [] tt)
    (no_own_id d now word fs a n refl, (no_reply d now word fs a n refl, (no_references d now word fs a n refl, (no_part d n o, tt))))

pub only_message_id : (d : Draft) (now : ℤ) (word : ℕ) (fs : List Field) (a : AreDraftFields d now word fs)
    → last (codes "Message-ID") (message_fields fs d) ≡ last (codes "Message-ID") a.message_id
only_message_id d now word fs a =
    let n = codes "Message-ID" in
    let o : IsOther n = (refl, refl, refl, refl, refl, refl, refl, refl, refl) in
    rows d now word fs a n
    ∙ among n a.date (addresses a (a.subject ∷ [])) a.message_id (a.in_reply_to ∷ a.references ∷ of_part d) (no_date d now word fs a n refl)
    (no_addresses d now word fs a n o (a.subject ∷ []) (no_subject d now word fs a n refl, tt))
    (no_reply d now word fs a n refl, (no_references d now word fs a n refl, (no_part d n o, tt)))

pub only_in_reply_to : (d : Draft) (now : ℤ) (word : ℕ) (fs : List Field) (a : AreDraftFields d now word fs)
    → last (codes "In-Reply-To") (message_fields fs d) ≡ last (codes "In-Reply-To") a.in_reply_to
only_in_reply_to d now word fs a =
    let n = codes "In-Reply-To" in
    let o : IsOther n = (refl, refl, refl, refl, refl, refl, refl, refl, refl) in
    rows d now word fs a n
    ∙ among n a.date (addresses a (a.subject ∷ a.message_id ∷ [])) a.in_reply_to (a.references ∷ of_part d) (no_date d now word fs a n refl)
    (no_addresses d now word fs a n o (a.subject ∷ a.message_id ∷ []) (no_subject d now word fs a n refl, (no_own_id d now word fs a n refl, tt)))
    (no_references d now word fs a n refl, (no_part d n o, tt))

pub only_references : (d : Draft) (now : ℤ) (word : ℕ) (fs : List Field) (a : AreDraftFields d now word fs)
    → last (codes "References") (message_fields fs d) ≡ last (codes "References") a.references
only_references d now word fs a =
    let n = codes "References" in
    let o : IsOther n = (refl, refl, refl, refl, refl, refl, refl, refl, refl) in
    rows d now word fs a n
    ∙ among n a.date (addresses a (a.subject ∷ a.message_id ∷ a.in_reply_to ∷ [])) a.references (of_part d) (no_date d now word fs a n refl)
    (no_addresses d now word fs a n o (a.subject ∷ a.message_id ∷ a.in_reply_to ∷ []) (no_subject d now word fs a n refl, (no_own_id d now word fs a n refl, (no_reply d now word fs a n refl, tt))))
    (no_part d n o, tt)
