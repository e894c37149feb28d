-- Drafts that say the same have the same messages.
use Rattle.std.proofs.Common.{◌≡◌, ℕ, ℤ, Bool, List, [], ◌∷◌, ◌++◌, map, codes, refl, sym, ap, ◌∙◌, subst, Option, Some, None}
use Rattle.std.specs.Prelude.{option_map, option_to_list}
use Rattle.std.specs.List.{AllZip}
use Rattle.blob_store.specs.Uploads.{upload_with}
use Rattle.header_dates.specs.declared.date.Moment.{Moment}
use Rattle.zoned_moments.specs.declared.moments.ZonedMoment.{ZonedMoment}
use Rattle.mail_drafts.specs.declared.attachment.Attachment.{Attachment}
use Rattle.mail_drafts.specs.declared.draft.Draft.{Draft}
use Rattle.mail_drafts.specs.declared.mailbox.Mailbox.{Mailbox}
use Rattle.draft_reading.specs.Mailboxes.{Named as SaidMailbox, said}
use Rattle.draft_reading.specs.Parts.{Attached}
use Rattle.draft_reading.specs.Readings.{IsUpload}
use Rattle.message_lines.specs.declared.folding.Line.{Line}
use Rattle.message_lines.specs.Folding.{FieldPiece, Field, begun, field, plain_piece, line_after}
use Rattle.message_lines.specs.Bodies.{base64_lines}
use Rattle.message_lines.specs.Ids.{AreIdTexts}
use Rattle.message_lines.specs.Subjects.{IsSubject}
use Rattle.message_texts.specs.AddressTexts.{angle_piece, IsAddressText, Unnamed, Named, comma_before, AreAddressTexts, NoAddress, NextAddress}
use Rattle.message_texts.specs.DateTexts.{IsDateText}
use Rattle.message_texts.specs.Fields.{IsWrittenField, IsWrittenFieldOf, AreAddressFields, AreIdFields, date_or_now, ids_or_drawn}
use Rattle.message_texts.specs.Messages.{IsMessageText, draft_part, with_fields}
use Rattle.message_texts.specs.Parts.{Entity, entity_text, base64_field, charset_parameter, disposition_field, id_fields, attachment_leaf, multipart, mixed_boundary, mixed, shown_part, whole_part}

-- ---- mailboxes

address_same : (line : Line) (end : List ℕ) (m n : Mailbox) (ps : List FieldPiece) → said m ≡ said n → IsAddressText line end m ps → IsAddressText line end n ps
address_same line end m n _ s (Unnamed e) =
    let name : m.name ≡ n.name = ap (λ (x : SaidMailbox). x.name) s in
    let email : m.email ≡ n.email = ap (λ (x : SaidMailbox). x.email) s in
    subst (λ (u : List ℕ). IsAddressText line end n (plain_piece (u ++ end) ∷ [])) (sym email) (Unnamed (sym name ∙ e))
address_same line end m n _ s (Named name ps e t) =
    let same : m.name ≡ n.name = ap (λ (x : SaidMailbox). x.name) s in
    let email : m.email ≡ n.email = ap (λ (x : SaidMailbox). x.email) s in
    subst (λ (u : List ℕ). IsAddressText line end n (ps ++ angle_piece u end ∷ [])) (sym email) (Named name ps (sym same ∙ e) t)

comma_same : (ms ns : List Mailbox) → map said ms ≡ map said ns → comma_before ms ≡ comma_before ns
comma_same [] [] e = refl
comma_same [] (n ∷ ns) e = absurd cc
comma_same (m ∷ ms) [] e = absurd cc
comma_same (m ∷ ms) (n ∷ ns) e = refl

texts_same : (line : Line) (ms ns : List Mailbox) (ps : List FieldPiece) → map said ms ≡ map said ns → AreAddressTexts line ms ps → AreAddressTexts line ns ps
texts_same _ _ [] _ e (NoAddress line) = NoAddress line
texts_same _ _ (n ∷ ns) _ e (NoAddress line) = absurd cc
texts_same _ _ [] _ e (NextAddress line m list ps qs is more) = absurd cc
texts_same _ _ (n ∷ ns) _ e (NextAddress line m list ps qs is more) =
    let s : said m ≡ said n = cc in
    let t : map said list ≡ map said ns = cc in
    NextAddress line n ns ps qs (address_same line (comma_before ns) m n ps s (subst (λ (u : List ℕ). IsAddressText line u m ps) (comma_same list ns t) is))
    (texts_same (line_after line ps) list ns qs t more)

fields_same : (name : List ℕ) (a b : Option (List Mailbox)) (fs : List Field) → option_map (map said) a ≡ option_map (map said) b → AreAddressFields name a fs → AreAddressFields name b fs
fields_same name None None fs e is = is
fields_same name None (Some y) fs e is = absurd cc
fields_same name (Some x) None fs e is = absurd cc
fields_same name (Some x) (Some y) fs e (ps, is, w) = let s : map said x ≡ map said y = cc in (ps, texts_same (begun name) x y ps s is, w)

-- ---- what is attached

leaf_of : List ℕ → Option (List ℕ) → Bool → Option (List ℕ) → Option (List ℕ) → List ℕ → Entity
leaf_of media charset inline name cid bytes = record {
  fields = field (codes "Content-Type") ((media ++ charset_parameter charset) ∷ []) ∷ base64_field ∷ disposition_field inline name ∷ id_fields cid;
  body = base64_lines bytes;
}

leaf_is : (a : Attachment) → attachment_leaf a ≡ leaf_of a.media a.charset a.inline a.name a.cid a.bytes
unfolding attachment_leaf leaf_of
leaf_is a = refl

bytes_same : (x y : List ℕ) (o : Option (List ℕ)) → o ≡ Some x → o ≡ Some y → x ≡ y
bytes_same x y o e f = let g : Some x ≡ Some y = sym e ∙ f in cc

leaf_same : (uploads : List (List ℕ)) (asked : Attached) (a b : Attachment) → IsUpload uploads asked a → IsUpload uploads asked b → attachment_leaf a ≡ attachment_leaf b
leaf_same uploads asked a b u v =
    leaf_is a
    ∙ ap (λ (x : List ℕ). leaf_of x a.charset a.inline a.name a.cid a.bytes) (u.media ∙ sym v.media)
    ∙ ap (λ (x : Option (List ℕ)). leaf_of b.media x a.inline a.name a.cid a.bytes) (u.charset ∙ sym v.charset)
    ∙ ap (λ (x : Bool). leaf_of b.media b.charset x a.name a.cid a.bytes) (u.inline ∙ sym v.inline)
    ∙ ap (λ (x : Option (List ℕ)). leaf_of b.media b.charset b.inline x a.cid a.bytes) (u.name ∙ sym v.name)
    ∙ ap (λ (x : Option (List ℕ)). leaf_of b.media b.charset b.inline b.name x a.bytes) (u.cid ∙ sym v.cid)
    ∙ ap (λ (x : List ℕ). leaf_of b.media b.charset b.inline b.name b.cid x) (bytes_same a.bytes b.bytes (upload_with asked.blob uploads) u.bytes v.bytes)
    ∙ sym (leaf_is b)

pub leaves_same : (uploads : List (List ℕ)) (asked : List Attached) (xs ys : List Attachment) → AllZip (IsUpload uploads) asked xs → AllZip (IsUpload uploads) asked ys
    → map attachment_leaf xs ≡ map attachment_leaf ys
leaves_same uploads [] [] [] u v = refl
leaves_same uploads [] [] (y ∷ ys) u v = absurd v
leaves_same uploads [] (x ∷ xs) ys u v = absurd u
leaves_same uploads (q ∷ qs) [] ys u v = absurd u
leaves_same uploads (q ∷ qs) (x ∷ xs) [] u v = absurd v
leaves_same uploads (q ∷ qs) (x ∷ xs) (y ∷ ys) u v =
    ap (λ (e : Entity). e ∷ map attachment_leaf xs) (leaf_same uploads q x y u.0 v.0) ∙ ap (λ (es : List Entity). attachment_leaf y ∷ es) (leaves_same uploads qs xs ys u.1 v.1)

part_same : (shown : Option Entity) (xs ys : List Attachment) → map attachment_leaf xs ≡ map attachment_leaf ys → whole_part shown xs ≡ whole_part shown ys
unfolding mixed
part_same shown [] [] e = refl
part_same shown [] (y ∷ ys) e = absurd cc
part_same shown (x ∷ xs) [] e = absurd cc
part_same shown (x ∷ xs) (y ∷ ys) e = ap (λ (es : List Entity). multipart (codes "multipart/mixed") mixed_boundary (option_to_list shown ++ es)) e

-- ---- drafts

abbrev moment_in : Option ZonedMoment → Option Moment
moment_in date = option_map (λ (z : ZonedMoment). z.moment) date

-- the drafts say the same
pub record SayTheSame (d e : Draft) : Type 0 where
  pub date : option_map (λ (z : ZonedMoment). z.moment) d.date ≡ option_map (λ (z : ZonedMoment). z.moment) e.date
  pub from : option_map (map said) d.from ≡ option_map (map said) e.from
  pub sender : option_map (map said) d.sender ≡ option_map (map said) e.sender
  pub reply_to : option_map (map said) d.reply_to ≡ option_map (map said) e.reply_to
  pub to : option_map (map said) d.to ≡ option_map (map said) e.to
  pub cc : option_map (map said) d.cc ≡ option_map (map said) e.cc
  pub bcc : option_map (map said) d.bcc ≡ option_map (map said) e.bcc
  pub subject : d.subject ≡ e.subject
  pub message_id : d.message_id ≡ e.message_id
  pub in_reply_to : d.in_reply_to ≡ e.in_reply_to
  pub references : d.references ≡ e.references
  pub text : d.text ≡ e.text
  pub html : d.html ≡ e.html
  pub attached : map attachment_leaf d.attachments ≡ map attachment_leaf e.attachments

moment_same : (now : ℤ) (a b : Option ZonedMoment) → moment_in a ≡ moment_in b → date_or_now now a ≡ date_or_now now b
moment_same now None None e = refl
moment_same now None (Some y) e = absurd cc
moment_same now (Some x) None e = absurd cc
moment_same now (Some x) (Some y) e = cc

pub message_same : (d e : Draft) (now : ℤ) (word : ℕ) (t : List ℕ) → SayTheSame d e → IsMessageText d now word t → IsMessageText e now word t
message_same d e now word t s is =
    let a = is.are in
    let shown = ap (λ (x : Option (List ℕ)). shown_part x d.html) s.text ∙ ap (λ (x : Option (List ℕ)). shown_part e.text x) s.html in
    let part : draft_part d ≡ draft_part e = ap (λ (x : Option Entity). whole_part x d.attachments) shown ∙ part_same (shown_part e.text e.html) d.attachments e.attachments s.attached in
    record {
      fields = is.fields;
      are = record {
        date = a.date;
        from = a.from;
        sender = a.sender;
        reply_to = a.reply_to;
        to = a.to;
        cc = a.cc;
        bcc = a.bcc;
        subject = a.subject;
        message_id = a.message_id;
        in_reply_to = a.in_reply_to;
        references = a.references;
        whole = a.whole;
        is_date = subst (λ (m : Moment). IsWrittenField (IsDateText m) (codes "Date") a.date) (moment_same now d.date e.date s.date) a.is_date;
        is_from = fields_same (codes "From") d.from e.from a.from s.from a.is_from;
        is_sender = fields_same (codes "Sender") d.sender e.sender a.sender s.sender a.is_sender;
        is_reply_to = fields_same (codes "Reply-To") d.reply_to e.reply_to a.reply_to s.reply_to a.is_reply_to;
        is_to = fields_same (codes "To") d.to e.to a.to s.to a.is_to;
        is_cc = fields_same (codes "Cc") d.cc e.cc a.cc s.cc a.is_cc;
        is_bcc = fields_same (codes "Bcc") d.bcc e.bcc a.bcc s.bcc a.is_bcc;
        is_subject = subst (λ (x : Option (List ℕ)). IsWrittenFieldOf (IsSubject (begun (codes "Subject"))) (codes "Subject") x a.subject) s.subject a.is_subject;
        is_message_id = subst (λ (x : Option (List (List ℕ))). IsWrittenField (AreIdTexts (ids_or_drawn word x)) (codes "Message-ID") a.message_id) s.message_id a.is_message_id;
        is_in_reply_to = subst (λ (x : Option (List (List ℕ))). AreIdFields (codes "In-Reply-To") x a.in_reply_to) s.in_reply_to a.is_in_reply_to;
        is_references = subst (λ (x : Option (List (List ℕ))). AreIdFields (codes "References") x a.references) s.references a.is_references;
      };
      text_is = is.text_is ∙ ap (λ (p : Entity). entity_text (with_fields is.fields p)) part;
    }
