-- The fields of a draft in rows, of which each has one name.
use Rattle.std.proofs.Common.{◌≡◌, ℕ, ℤ, Bool, true, false, not, List, [], ◌∷◌, ◌++◌, codes, Option, Some, None, refl, sym, ap, ◌∙◌, subst}
use Rattle.text_words.specs.Cuts.{Each}
use Rattle.text_words.specs.Octets.{is_same_text}
use Rattle.text_words.proofs.CutLemmas.{each_append}
use Rattle.mail_header.specs.Fields.{later_or}
use Rattle.mail_drafts.specs.declared.attachment.Attachment.{Attachment}
use Rattle.mail_drafts.specs.declared.draft.Draft.{Draft}
use Rattle.mail_drafts.specs.declared.mailbox.Mailbox.{Mailbox}
use Rattle.message_lines.specs.Folding.{FieldPiece, Field, begun, field_value}
use Rattle.message_lines.specs.Ids.{AreIdTexts}
use Rattle.message_lines.specs.Subjects.{IsSubject}
use Rattle.message_texts.specs.AddressTexts.{AreAddressTexts}
use Rattle.message_texts.specs.DateTexts.{IsDateText}
use Rattle.message_texts.specs.Fields.{IsWrittenField, IsWrittenFieldOf, AreAddressFields, AreDraftFields, date_or_now, ids_or_drawn}
use Rattle.message_texts.specs.Messages.{draft_part, mime_version}
use Rattle.message_texts.specs.Parts.{text_leaf, alternative, mixed, shown_part, whole_part}
use Rattle.message_laws.proofs.LastFields.{last}

-- ---- fields of other names

abbrev pub is_other : List ℕ → Field → Bool
is_other n f = not (is_same_text f.name n)

-- they don't change which field is the last of the name
later : (n : List ℕ) (f : Field) (o : Option (List ℕ)) → is_other n f ≡ true → later_or o (is_same_text f.name n) (field_value f) ≡ o
later n f o e = by (is_same_text f.name n) e o
  where
    by : (b : Bool) → not b ≡ true → (o : Option (List ℕ)) → later_or o b (field_value f) ≡ o
    by true g o = absurd cc
    by false g None = refl
    by false g (Some x) = refl

pub before : (n : List ℕ) (fs gs : List Field) → Each (is_other n) fs → last n (fs ++ gs) ≡ last n gs
before n [] gs e = refl
before n (f ∷ fs) gs e = ap (λ (o : Option (List ℕ)). later_or o (is_same_text f.name n) (field_value f)) (before n fs gs e.1) ∙ later n f (last n gs) e.0

none : (n : List ℕ) (fs : List Field) → Each (is_other n) fs → last n fs ≡ None
none n [] e = refl
none n (f ∷ fs) e = ap (λ (o : Option (List ℕ)). later_or o (is_same_text f.name n) (field_value f)) (none n fs e.1) ∙ later n f None e.0

behind : (n : List ℕ) (fs gs : List Field) → Each (is_other n) gs → last n (fs ++ gs) ≡ last n fs
behind n [] gs e = none n gs e
behind n (f ∷ fs) gs e = ap (λ (o : Option (List ℕ)). later_or o (is_same_text f.name n) (field_value f)) (behind n fs gs e)

-- ---- rows of fields

-- rows behind one another
abbrev pub joined : List Field → List (List Field) → List Field
joined fs [] = fs
joined fs (gs ∷ more) = joined (fs ++ gs) more

abbrev pub AllOther : List ℕ → List (List Field) → Type 0
AllOther n [] = Unit {0}
AllOther n (gs ∷ more) = Each (is_other n) gs × AllOther n more

passed : (n : List ℕ) (fs : List Field) (more : List (List Field)) → AllOther n more → last n (joined fs more) ≡ last n fs
passed n fs [] a = refl
passed n fs (gs ∷ more) a = passed n (fs ++ gs) more a.1 ∙ behind n fs gs a.0

-- one row has the last field of the name, where the others have none
pub among : (n : List ℕ) (fs : List Field) (rows : List (List Field)) (gs : List Field) (more : List (List Field)) → Each (is_other n) fs → AllOther n rows → AllOther n more
    → last n (joined fs (rows ++ gs ∷ more)) ≡ last n gs
among n fs [] gs more e a b = passed n (fs ++ gs) more b ∙ before n fs gs e
among n fs (hs ∷ rows) gs more e a b = among n (fs ++ hs) rows gs more (each_append (is_other n) fs hs e a.0) a.1 b

-- no field but of this name
abbrev pub IsNamed : List ℕ → List Field → Type 0
IsNamed m fs = (n : List ℕ) → is_same_text m n ≡ false → Each (is_other n) fs

written : (Are : List FieldPiece → Type 0) (m : List ℕ) (fs : List Field) → IsWrittenField Are m fs → IsNamed m fs
written Are m fs (ps, is, e) = λ n other. subst (λ (gs : List Field). Each (is_other n) gs) (sym e) (ap not other, tt)

written_of : {X : Type 0} (Are : X → List FieldPiece → Type 0) (m : List ℕ) (value : Option X) (fs : List Field) → IsWrittenFieldOf Are m value fs → IsNamed m fs
written_of Are m None fs e = λ n other. subst (λ (gs : List Field). Each (is_other n) gs) (sym e) tt
written_of Are m (Some x) fs is = written (Are x) m fs is

-- ---- the fields of a part

abbrev pub part_fields : Draft → List Field
part_fields d = mime_version ∷ (draft_part d).fields

-- another name than those of a part's fields
abbrev pub IsNoPart : List ℕ → Type 0
IsNoPart n = (is_same_text (codes "MIME-Version") n ≡ false) × (is_same_text (codes "Content-Type") n ≡ false) × (is_same_text (codes "Content-Transfer-Encoding") n ≡ false)

pub part_other : (n : List ℕ) → IsNoPart n → (text html : Option (List ℕ)) (list : List Attachment) → Each (is_other n) (mime_version ∷ (whole_part (shown_part text html) list).fields)
unfolding text_leaf alternative mixed
part_other n o None None [] = (ap not o.0, (ap not o.1, (ap not o.2, tt)))
part_other n o (Some x) None [] = (ap not o.0, (ap not o.1, (ap not o.2, tt)))
part_other n o None (Some y) [] = (ap not o.0, (ap not o.1, (ap not o.2, tt)))
part_other n o (Some x) (Some y) [] = (ap not o.0, (ap not o.1, tt))
part_other n o text html (a ∷ list) = (ap not o.0, (ap not o.1, tt))

-- ---- the fields of a draft

-- the row of each name has no other
pub record AreRows (d : Draft) (now : ℤ) (word : ℕ) (fs : List Field) (a : AreDraftFields d now word fs) : Type 0 where
  pub date : IsNamed (codes "Date") a.date
  pub from : IsNamed (codes "From") a.from
  pub sender : IsNamed (codes "Sender") a.sender
  pub reply_to : IsNamed (codes "Reply-To") a.reply_to
  pub to : IsNamed (codes "To") a.to
  pub cc : IsNamed (codes "Cc") a.cc
  pub bcc : IsNamed (codes "Bcc") a.bcc
  pub subject : IsNamed (codes "Subject") a.subject
  pub message_id : IsNamed (codes "Message-ID") a.message_id
  pub in_reply_to : IsNamed (codes "In-Reply-To") a.in_reply_to
  pub references : IsNamed (codes "References") a.references

address_row : (m : List ℕ) (list : Option (List Mailbox)) (fs : List Field) → AreAddressFields m list fs → IsNamed m fs
address_row m list fs is = written_of (AreAddressTexts (begun m)) m list fs is

pub are_rows : (d : Draft) (now : ℤ) (word : ℕ) (fs : List Field) (a : AreDraftFields d now word fs) → AreRows d now word fs a
are_rows d now word fs a = record {
  date = written (IsDateText (date_or_now now d.date)) (codes "Date") a.date a.is_date;
  from = address_row (codes "From") d.from a.from a.is_from;
  sender = address_row (codes "Sender") d.sender a.sender a.is_sender;
  reply_to = address_row (codes "Reply-To") d.reply_to a.reply_to a.is_reply_to;
  to = address_row (codes "To") d.to a.to a.is_to;
  cc = address_row (codes "Cc") d.cc a.cc a.is_cc;
  bcc = address_row (codes "Bcc") d.bcc a.bcc a.is_bcc;
  subject = written_of (IsSubject (begun (codes "Subject"))) (codes "Subject") d.subject a.subject a.is_subject;
  message_id = written (AreIdTexts (ids_or_drawn word d.message_id)) (codes "Message-ID") a.message_id a.is_message_id;
  in_reply_to = written_of AreIdTexts (codes "In-Reply-To") d.in_reply_to a.in_reply_to a.is_in_reply_to;
  references = written_of AreIdTexts (codes "References") d.references a.references a.is_references;
}

-- the rows behind those of addresses
abbrev pub rows_behind : {d : Draft} {now : ℤ} {word : ℕ} {fs : List Field} → AreDraftFields d now word fs → List (List Field)
rows_behind {d = d} a = a.subject ∷ a.message_id ∷ a.in_reply_to ∷ a.references ∷ part_fields d ∷ []

-- another name than those of the fields that stand there
abbrev pub IsNoneBehind : List ℕ → Type 0
IsNoneBehind n =
    (is_same_text (codes "Subject") n ≡ false) × (is_same_text (codes "Message-ID") n ≡ false) × (is_same_text (codes "In-Reply-To") n ≡ false) × (is_same_text (codes "References") n ≡ false)
    × IsNoPart n
