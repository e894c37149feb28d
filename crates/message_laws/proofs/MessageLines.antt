-- The message of a draft breaks no line.
use Rattle.std.proofs.Common.{◌≡◌, ℕ, ℤ, pos, negsuc, ◌≤ℤ◌, Bool, true, false, List, [], ◌∷◌, ◌++◌, map, codes, Option, Some, None, IsUtf8, refl, sym, subst, arith}
use Rattle.std.specs.List.{list_all, flat_map}
use Rattle.std.proofs.lemmas.Bool.{and_parts}
use Rattle.std.proofs.lemmas.Str.{IsUtf8-from_is_utf8, IsUtf8-nil}
use Rattle.jiff_core.proofs.SignedLemmas.{signed_arith}
use Rattle.zoned_moments.specs.declared.moments.ZonedMoment.{ZonedMoment}
use Rattle.text_words.specs.Cuts.{Each, IsRun}
use Rattle.mail_header.specs.Fields.{is_name}
use Rattle.text_words.proofs.CutLemmas.{each_append}
use Rattle.mail_drafts.specs.declared.attachment.Attachment.{Attachment}
use Rattle.mail_drafts.specs.declared.draft.Draft.{Draft}
use Rattle.mail_drafts.specs.Drafts.{are_filled, are_identifiers, is_text}
use Rattle.mail_drafts.specs.Identifiers.{is_identifier, is_identifier_or_none}
use Rattle.mail_drafts.specs.MediaTypes.{is_token_or_none}
use Rattle.message_lines.specs.Folding.{FieldPiece, Field, begun, field, crlf}
use Rattle.message_lines.specs.Ids.{AreIdTexts, id_piece, bracketed}
use Rattle.message_lines.specs.Bodies.{with_crlf}
use Rattle.message_lines.specs.Subjects.{IsSubject}
use Rattle.message_texts.specs.AddressTexts.{AreAddressTexts}
use Rattle.message_texts.specs.DateTexts.{IsDateText}
use Rattle.message_texts.specs.Fields.{IsWrittenField, IsWrittenFieldOf, AreDraftFields, date_or_now, ids_or_drawn}
use Rattle.message_texts.specs.Messages.{IsMessageText, draft_part, mime_version, with_fields}
use Rattle.message_texts.specs.Parts.{Entity, entity_text, base64_field, text_leaf, disposition, disposition_field, id_fields, charset_parameter, attachment_leaf, delimiter_line, closing_line, delimited, multipart_body}
use Rattle.message_texts.specs.Parts.{mixed_boundary, alternative_boundary, alternative, shown_part, mixed, alone, whole_part}
use Rattle.message_laws.specs.SafeTexts.{is_line_octet, is_octet, IsLines, NoOctet, HaveOctets}
use Rattle.message_laws.proofs.Lines.{append_lines, one_line, line_end, printed, named, ArePrinted, IsPrintedField, ArePrintedFields, fields_append, IsSafeEntity, entity_lines, printed_field}
use Rattle.message_laws.proofs.Octets.{text_octets, crlf_octets, body_safe}
use Rattle.message_laws.proofs.DateLines.{date_printed}
use Rattle.message_laws.proofs.ValueLines.{shown_printed, subject_printed, identifier_printed, bracketed_printed, ids_printed, drawn_printed, addresses_printed, media_printed, token_printed, file_name_printed}

-- ---- the fields of a draft

field_printed : (Are : List FieldPiece → Type 0) (name : List ℕ) → IsRun is_name name → ((ps : List FieldPiece) → Are ps → ArePrinted ps) → (fs : List Field)
    → IsWrittenField Are name fs → ArePrintedFields fs
field_printed Are name n of fs (ps, is, e) = subst (λ (x : List Field). ArePrintedFields x) (sym e) (record { name = n; pieces = of ps is }, tt)

field_of_printed : {X : Type 0} (Are : X → List FieldPiece → Type 0) (name : List ℕ) → IsRun is_name name → ((x : X) (ps : List FieldPiece) → Are x ps → ArePrinted ps)
    → (value : Option X) (fs : List Field) → IsWrittenFieldOf Are name value fs → ArePrintedFields fs
field_of_printed Are name n of None fs e = subst (λ (x : List Field). ArePrintedFields x) (sym e) tt
field_of_printed Are name n of (Some x) fs is = field_printed (Are x) name n (of x) fs is

ids_printed_of : (name : List ℕ) → IsRun is_name name → (ids : Option (List (List ℕ))) → are_identifiers ids ≡ true → (fs : List Field) → IsWrittenFieldOf AreIdTexts name ids fs
    → ArePrintedFields fs
ids_printed_of name n None e fs none = subst (λ (x : List Field). ArePrintedFields x) (sym none) tt
ids_printed_of name n (Some ids) e fs is =
    field_printed (AreIdTexts ids) name n (λ ps same. subst (λ (us : List FieldPiece). ArePrinted us) (sym same) (ids_printed ids (and_parts (are_filled (Some ids)) (list_all is_identifier ids) e).1)) fs is

-- the zone of a moment that is written is less than a day off
pub record IsNear (zone : ℤ) : Type 0 where
  pub west : negsuc 1438 ≤ℤ zone
  pub east : zone ≤ℤ pos 1439

pub near : (now : ℤ) (date : Option ZonedMoment) → IsNear (date_or_now now date).offset_minutes
near now None = record { west = omega (arith, signed_arith); east = omega (arith, signed_arith) }
near now (Some z) = record { west = z.zoned.west; east = z.zoned.east }

date_pieces : (d : Draft) (now : ℤ) (ps : List FieldPiece) → IsDateText (date_or_now now d.date) ps → ArePrinted ps
date_pieces d now ps (t, is, e) =
    let n = near now d.date in
    subst (λ (us : List FieldPiece). ArePrinted us) (sym e) (shown_printed t (date_printed (date_or_now now d.date) t n.west n.east is), tt)

own_ids_of : (word : ℕ) (ids : Option (List (List ℕ))) → are_identifiers ids ≡ true → ArePrinted (map id_piece (ids_or_drawn word ids))
own_ids_of word None e = drawn_printed word
own_ids_of word (Some ids) e = ids_printed ids (and_parts (are_filled (Some ids)) (list_all is_identifier ids) e).1

own_ids : (d : Draft) (word : ℕ) (ps : List FieldPiece) → AreIdTexts (ids_or_drawn word d.message_id) ps → ArePrinted ps
own_ids d word ps e = subst (λ (us : List FieldPiece). ArePrinted us) (sym e) (own_ids_of word d.message_id d.message_id_is)

fields_printed : (d : Draft) (now : ℤ) (word : ℕ) (fs : List Field) → AreDraftFields d now word fs → ArePrintedFields fs
fields_printed d now word fs f =
    let m = date_or_now now d.date in
    let p_from = fields_append (f.date) f.from (field_printed (IsDateText m) (codes "Date") (named (codes "Date") refl refl) (λ ps is. date_pieces d now ps is) f.date f.is_date) (field_of_printed (AreAddressTexts (begun (codes "From"))) (codes "From") (named (codes "From") refl refl) (λ list ps is. addresses_printed (begun (codes "From")) list ps is) d.from f.from f.is_from) in
    let p_sender = fields_append (f.date ++ f.from) f.sender p_from (field_of_printed (AreAddressTexts (begun (codes "Sender"))) (codes "Sender") (named (codes "Sender") refl refl) (λ list ps is. addresses_printed (begun (codes "Sender")) list ps is) d.sender f.sender f.is_sender) in
    let p_reply_to = fields_append (f.date ++ f.from ++ f.sender) f.reply_to p_sender (field_of_printed (AreAddressTexts (begun (codes "Reply-To"))) (codes "Reply-To") (named (codes "Reply-To") refl refl) (λ list ps is. addresses_printed (begun (codes "Reply-To")) list ps is) d.reply_to f.reply_to f.is_reply_to) in
    let p_to = fields_append (f.date ++ f.from ++ f.sender ++ f.reply_to) f.to p_reply_to (field_of_printed (AreAddressTexts (begun (codes "To"))) (codes "To") (named (codes "To") refl refl) (λ list ps is. addresses_printed (begun (codes "To")) list ps is) d.to f.to f.is_to) in
    let p_cc = fields_append (f.date ++ f.from ++ f.sender ++ f.reply_to ++ f.to) f.cc p_to (field_of_printed (AreAddressTexts (begun (codes "Cc"))) (codes "Cc") (named (codes "Cc") refl refl) (λ list ps is. addresses_printed (begun (codes "Cc")) list ps is) d.cc f.cc f.is_cc) in
    let p_bcc = fields_append (f.date ++ f.from ++ f.sender ++ f.reply_to ++ f.to ++ f.cc) f.bcc p_cc (field_of_printed (AreAddressTexts (begun (codes "Bcc"))) (codes "Bcc") (named (codes "Bcc") refl refl) (λ list ps is. addresses_printed (begun (codes "Bcc")) list ps is) d.bcc f.bcc f.is_bcc) in
    let p_subject = fields_append (f.date ++ f.from ++ f.sender ++ f.reply_to ++ f.to ++ f.cc ++ f.bcc) f.subject p_bcc (field_of_printed (IsSubject (begun (codes "Subject"))) (codes "Subject") (named (codes "Subject") refl refl) (λ s ps is. subject_printed (begun (codes "Subject")) s ps is) d.subject f.subject f.is_subject) in
    let p_message_id = fields_append (f.date ++ f.from ++ f.sender ++ f.reply_to ++ f.to ++ f.cc ++ f.bcc ++ f.subject) f.message_id p_subject (field_printed (AreIdTexts (ids_or_drawn word d.message_id)) (codes "Message-ID") (named (codes "Message-ID") refl refl) (λ ps is. own_ids d word ps is) f.message_id f.is_message_id) in
    let p_in_reply_to = fields_append (f.date ++ f.from ++ f.sender ++ f.reply_to ++ f.to ++ f.cc ++ f.bcc ++ f.subject ++ f.message_id) f.in_reply_to p_message_id (ids_printed_of (codes "In-Reply-To") (named (codes "In-Reply-To") refl refl) d.in_reply_to d.in_reply_to_is f.in_reply_to f.is_in_reply_to) in
    let p_references = fields_append (f.date ++ f.from ++ f.sender ++ f.reply_to ++ f.to ++ f.cc ++ f.bcc ++ f.subject ++ f.message_id ++ f.in_reply_to) f.references p_in_reply_to (ids_printed_of (codes "References") (named (codes "References") refl refl) d.references d.references_is f.references f.is_references) in
    subst (λ (x : List Field). ArePrintedFields x) (sym f.whole) p_references

-- ---- leaves

content_type : (value : List ℕ) → Each is_line_octet value → IsPrintedField (field (codes "Content-Type") (value ∷ []))
content_type value v = printed_field (codes "Content-Type") value (named (codes "Content-Type") refl refl) v

encoding_printed : IsPrintedField base64_field
encoding_printed = printed_field (codes "Content-Transfer-Encoding") (codes "base64") (named (codes "Content-Transfer-Encoding") refl refl) (printed (codes "base64") refl)

text_leaf_safe : (media value : List ℕ) → Each is_line_octet media → IsUtf8 value → IsSafeEntity (text_leaf media value)
unfolding text_leaf
text_leaf_safe media value m u = record {
  fields = (content_type (media ++ codes "; charset=utf-8") (each_append is_line_octet media (codes "; charset=utf-8") m (printed (codes "; charset=utf-8") refl)), (encoding_printed, tt));
  body = body_safe (with_crlf value) (crlf_octets value (text_octets value u));
}

disposition_printed : (inline : Bool) → Each is_line_octet (disposition inline)
disposition_printed true = printed (codes "inline") refl
disposition_printed false = printed (codes "attachment") refl

disposition_field_printed : (inline : Bool) (name : Option (List ℕ)) → IsPrintedField (disposition_field inline name)
unfolding disposition_field
disposition_field_printed inline None = record { name = named (codes "Content-Disposition") refl refl; pieces = (disposition_printed inline, tt) }
disposition_field_printed inline (Some name) = record {
  name = named (codes "Content-Disposition") refl refl;
  pieces = (each_append is_line_octet (disposition inline) (59 ∷ []) (disposition_printed inline) (refl, tt), (file_name_printed name, tt));
}

id_fields_printed : (cid : Option (List ℕ)) → is_identifier_or_none cid ≡ true → ArePrintedFields (id_fields cid)
id_fields_printed None e = tt
id_fields_printed (Some cid) e =
    (printed_field (codes "Content-ID") (bracketed cid) (named (codes "Content-ID") refl refl) (bracketed_printed cid (identifier_printed cid e)), tt)

abbrev AreSafe : List Entity → Type 0
AreSafe [] = Unit {0}
AreSafe (e ∷ es) = IsSafeEntity e × AreSafe es

charset_printed : (charset : Option (List ℕ)) → is_token_or_none charset ≡ true → Each is_line_octet (charset_parameter charset)
charset_printed None e = tt
charset_printed (Some charset) e = each_append is_line_octet (codes "; charset=") charset (printed (codes "; charset=") refl) (token_printed charset e)

attachment_safe : (a : Attachment) → Each is_octet a.bytes → IsSafeEntity (attachment_leaf a)
unfolding attachment_leaf
attachment_safe a e = record {
  fields = (content_type (a.media ++ charset_parameter a.charset) (each_append is_line_octet a.media (charset_parameter a.charset) (media_printed a.media a.media_is) (charset_printed a.charset a.charset_is)), (encoding_printed, (disposition_field_printed a.inline a.name, id_fields_printed a.cid a.cid_is)));
  body = body_safe a.bytes e;
}

attachments_safe : (list : List Attachment) → HaveOctets list → AreSafe (map attachment_leaf list)
attachments_safe [] o = tt
attachments_safe (a ∷ list) o = (attachment_safe a o.0, attachments_safe list o.1)

-- ---- multiparts

delimiter_safe : (boundary : List ℕ) → Each is_line_octet boundary → IsLines (delimiter_line boundary)
delimiter_safe boundary b =
    append_lines (codes "--") (boundary ++ crlf) (one_line (codes "--") (printed (codes "--") refl)) (append_lines boundary crlf (one_line boundary b) line_end)

closing_safe : (boundary : List ℕ) → Each is_line_octet boundary → IsLines (closing_line boundary)
closing_safe boundary b =
    let dashes = one_line (codes "--") (printed (codes "--") refl) in
    append_lines (codes "--") (boundary ++ codes "--" ++ crlf) dashes
    (append_lines (boundary ++ codes "--") crlf (append_lines boundary (codes "--") (one_line boundary b) dashes) line_end)

parts_safe : (boundary : List ℕ) → Each is_line_octet boundary → (parts : List Entity) → AreSafe parts → IsLines (flat_map (delimited boundary) (map entity_text parts))
parts_safe boundary b [] s = NoOctet
parts_safe boundary b (e ∷ es) s =
    append_lines (delimiter_line boundary ++ entity_text e) (flat_map (delimited boundary) (map entity_text es))
    (append_lines (delimiter_line boundary) (entity_text e) (delimiter_safe boundary b) (entity_lines e s.0)) (parts_safe boundary b es s.1)

body_of_parts : (boundary : List ℕ) → Each is_line_octet boundary → (parts : List Entity) → AreSafe parts → IsLines (multipart_body boundary (map entity_text parts))
body_of_parts boundary b parts s =
    append_lines (flat_map (delimited boundary) (map entity_text parts)) (closing_line boundary) (parts_safe boundary b parts s) (closing_safe boundary b)

alternative_safe : (text html : List ℕ) → IsUtf8 text → IsUtf8 html → IsSafeEntity (alternative text html)
unfolding alternative
alternative_safe text html t h = record {
  fields = (content_type (codes "multipart/alternative; boundary=_b") (printed (codes "multipart/alternative; boundary=_b") refl), tt);
  body = body_of_parts alternative_boundary (printed alternative_boundary refl) (text_leaf (codes "text/plain") text ∷ text_leaf (codes "text/html") html ∷ [])
      (text_leaf_safe (codes "text/plain") text (printed (codes "text/plain") refl) t, (text_leaf_safe (codes "text/html") html (printed (codes "text/html") refl) h, tt));
}

-- ---- the whole

abbrev IsSafeOption : Option Entity → Type 0
IsSafeOption None = Unit {0}
IsSafeOption (Some e) = IsSafeEntity e

shown_safe : (text html : Option (List ℕ)) → is_text text ≡ true → is_text html ≡ true → IsSafeOption (shown_part text html)
shown_safe None None t h = tt
shown_safe (Some text) None t h = text_leaf_safe (codes "text/plain") text (printed (codes "text/plain") refl) (IsUtf8-from_is_utf8 text t)
shown_safe None (Some html) t h = text_leaf_safe (codes "text/html") html (printed (codes "text/html") refl) (IsUtf8-from_is_utf8 html h)
shown_safe (Some text) (Some html) t h = alternative_safe text html (IsUtf8-from_is_utf8 text t) (IsUtf8-from_is_utf8 html h)

part_safe : (shown : Option Entity) (list : List Attachment) → IsSafeOption shown → HaveOctets list → IsSafeEntity (whole_part shown list)
unfolding mixed
part_safe None [] s o = text_leaf_safe (codes "text/plain") [] (printed (codes "text/plain") refl) IsUtf8-nil
part_safe (Some e) [] s o = s
part_safe None (a ∷ list) s o = record {
  fields = (content_type (codes "multipart/mixed; boundary=_a") (printed (codes "multipart/mixed; boundary=_a") refl), tt);
  body = body_of_parts mixed_boundary (printed mixed_boundary refl) (map attachment_leaf (a ∷ list)) (attachments_safe (a ∷ list) o);
}
part_safe (Some e) (a ∷ list) s o = record {
  fields = (content_type (codes "multipart/mixed; boundary=_a") (printed (codes "multipart/mixed; boundary=_a") refl), tt);
  body = body_of_parts mixed_boundary (printed mixed_boundary refl) (e ∷ map attachment_leaf (a ∷ list)) (s, attachments_safe (a ∷ list) o);
}

version_printed : IsPrintedField mime_version
version_printed = printed_field (codes "MIME-Version") (codes "1.0") (named (codes "MIME-Version") refl refl) (printed (codes "1.0") refl)

-- the fields of a draft's part
shown_fields : (text html : Option (List ℕ)) → ArePrintedFields (alone (shown_part text html)).fields
unfolding text_leaf alternative
shown_fields None None = (content_type (codes "text/plain; charset=utf-8") (printed (codes "text/plain; charset=utf-8") refl), (encoding_printed, tt))
shown_fields (Some text) None = (content_type (codes "text/plain; charset=utf-8") (printed (codes "text/plain; charset=utf-8") refl), (encoding_printed, tt))
shown_fields None (Some html) = (content_type (codes "text/html; charset=utf-8") (printed (codes "text/html; charset=utf-8") refl), (encoding_printed, tt))
shown_fields (Some text) (Some html) = (content_type (codes "multipart/alternative; boundary=_b") (printed (codes "multipart/alternative; boundary=_b") refl), tt)

part_fields : (text html : Option (List ℕ)) (list : List Attachment) → ArePrintedFields (whole_part (shown_part text html) list).fields
unfolding mixed
part_fields text html [] = shown_fields text html
part_fields text html (a ∷ list) = (content_type (codes "multipart/mixed; boundary=_a") (printed (codes "multipart/mixed; boundary=_a") refl), tt)

-- the fields of the message
pub header_printed : (d : Draft) (now : ℤ) (word : ℕ) (fs : List Field) → AreDraftFields d now word fs → ArePrintedFields (fs ++ mime_version ∷ (draft_part d).fields)
header_printed d now word fs are =
    fields_append fs (mime_version ∷ (draft_part d).fields) (fields_printed d now word fs are) (version_printed, part_fields d.text d.html d.attachments)

pub message_safe : (d : Draft) (now : ℤ) (word : ℕ) (t : List ℕ) → HaveOctets d.attachments → IsMessageText d now word t → IsLines t
message_safe d now word t o is =
    let e = draft_part d in
    let s = part_safe (shown_part d.text d.html) d.attachments (shown_safe d.text d.html d.text_is d.html_is) o in
    let whole : IsSafeEntity (with_fields is.fields e) = record {
      fields = header_printed d now word is.fields is.are;
      body = s.body;
    } in
    subst (λ (u : List ℕ). IsLines u) (sym is.text_is) (entity_lines (with_fields is.fields e) whole)
