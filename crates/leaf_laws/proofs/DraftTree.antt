-- The tree of a draft's message has the draft's parts.
use Rattle.std.proofs.Common.{◌≡◌, ◌≢◌, ℕ, suc, ℤ, ◌+◌, Bool, true, false, not, List, [], ◌∷◌, ◌++◌, length, map, drop, IsUtf8, codes, refl, sym, ap, ◌∙◌, subst, arith, append_assoc, inl, inr, Option, Some, None}
use Rattle.std.specs.Prelude.{slice_range, option_to_list, ◌⊎◌, ◌≤◌}
use Rattle.std.specs.List.{flat_map}
use Rattle.std.proofs.lemmas.List.{append-nil}
use Rattle.std.proofs.lemmas.Str.{IsUtf8-nil, IsUtf8-from_is_utf8}
use Rattle.std.proofs.Math.Seq.{drop-append-add}
use Rattle.text_words.specs.Cuts.{Each}
use Rattle.text_words.specs.Octets.{is_same_text}
use Rattle.text_words.proofs.CutLemmas.{each_append}
use Rattle.mail_header.specs.Fields.{IsHeader}
use Rattle.mail_drafts.specs.declared.attachment.Attachment.{Attachment}
use Rattle.mail_drafts.specs.declared.draft.Draft.{Draft}
use Rattle.mail_drafts.specs.Drafts.{is_text}
use Rattle.mail_drafts.specs.Identifiers.{is_identifier_or_none}
use Rattle.mail_drafts.specs.MediaTypes.{is_token_or_none}
use Rattle.message_lines.specs.Folding.{crlf, Field, field, fields_text}
use Rattle.message_lines.specs.Ids.{bracketed}
use Rattle.message_lines.specs.Bodies.{base64_lines, with_crlf}
use Rattle.message_laws.specs.Headers.{read_field, message_fields}
use Rattle.message_laws.specs.SafeTexts.{is_line_octet, is_octet, HaveOctets}
use Rattle.message_laws.proofs.HeaderLines.{header_read}
use Rattle.message_laws.proofs.Lines.{printed, named, IsPrintedField, ArePrintedFields, printed_field}
use Rattle.message_laws.proofs.Octets.{text_octets, crlf_octets}
use Rattle.message_laws.proofs.BodyReading.{body_is_read}
use Rattle.message_laws.proofs.ValueLines.{media_printed, token_printed, file_name_printed, bracketed_printed, identifier_printed}
use Rattle.message_texts.specs.Fields.{AreDraftFields}
use Rattle.message_texts.specs.Messages.{IsMessageText, mime_version, draft_part}
use Rattle.message_texts.specs.Parts.{Entity, entity_text, base64_field, text_leaf, attachment_leaf, charset_parameter, disposition, disposition_field, id_fields, multipart_body, delimiter_line, alternative, mixed, shown_part, alone, whole_part}
use Rattle.mime_tree.specs.declared.part.Part.{Part, out-Part}
use Rattle.mime_tree.specs.declared.split.Piece.{Piece}
use Rattle.mime_tree.specs.declared.tree.TheConstants.{MAX_DEPTH, MAX_PARTS}
use Rattle.mime_tree.specs.Delimiters.{lines, IsDelimiter, IsClosing}
use Rattle.mime_tree.specs.Splits.{ArePlain}
use Rattle.mime_tree.specs.Heads.{text_plain}
use Rattle.mime_tree.specs.Parts.{children, parts_within}
use Rattle.mime_tree.specs.Trees.{AreTrees, IsTree, HasTooManyParts, IsMessage}
use Rattle.address_laws.proofs.DraftRows.{is_other, joined, AllOther, AreRows, are_rows}
use Rattle.leaf_laws.specs.LeafReading.{GivenLeaf, IsLeafOf, AreLeavesOf, IsMultipartOf, given_text, given_attachment, shown_leaves, IsShown, AreShown, IsMixedOf, IsTreeOf, IsTreeOfDraft}
use Rattle.leaf_laws.proofs.EntityHeaders.{entity_header}
use Rattle.leaf_laws.proofs.DashTexts.{dashless, begins_dash, dashless_plain, IsDashless, AreDashless, fields_dashless, body_dashless, entity_dashless}
use Rattle.leaf_laws.proofs.SplitTexts.{slice_at, closed, closed_lines, delimiter_first, IsApart, AreApart, last_line, ClosesWith, closes_with_end, closes_without_end, body_to, body_written, body_ended}
use Rattle.leaf_laws.proofs.LeafTexts.{IsLeafText, leaf_read, IsLeafEntity, LeafPart, leaf_part}
use Rattle.leaf_laws.proofs.MultiTexts.{IsMultiText, StandAt, IsWrittenMulti, multi_read, HasLeafText, HaveLeafTexts, leaves_read}
use Rattle.leaf_laws.proofs.WrittenHeaders.{SayLeaf, SayMulti, AreForeign, none_foreign, IsTextMedia, plain_text, html_text, text_says, attachment_says, mixed_says, alternative_says}

-- ---- the entities of leaves

abbrev type_field : List ℕ → Field
type_field v = field (codes "Content-Type") (v ∷ [])

type_printed : (v : List ℕ) → Each is_line_octet v → IsPrintedField (type_field v)
type_printed v e = printed_field (codes "Content-Type") v (named (codes "Content-Type") refl refl) e

encoding_printed : IsPrintedField base64_field
encoding_printed = printed_field (codes "Content-Transfer-Encoding") (codes "base64") (named (codes "Content-Transfer-Encoding") refl refl) (printed (codes "base64") refl)

disposition_octets : (inline : Bool) → Each is_line_octet (disposition inline)
disposition_octets true = printed (codes "inline") refl
disposition_octets false = printed (codes "attachment") refl

disposition_printed : (inline : Bool) (name : Option (List ℕ)) → IsPrintedField (disposition_field inline name)
unfolding disposition_field
disposition_printed inline None = record { name = named (codes "Content-Disposition") refl refl; pieces = (disposition_octets inline, tt) }
disposition_printed inline (Some name) = record {
  name = named (codes "Content-Disposition") refl refl;
  pieces = (each_append is_line_octet (disposition inline) (59 ∷ []) (disposition_octets inline) (refl, tt), (file_name_printed name, tt));
}

ids_printed : (cid : Option (List ℕ)) → is_identifier_or_none cid ≡ true → ArePrintedFields (id_fields cid)
ids_printed None e = tt
ids_printed (Some cid) e = (printed_field (codes "Content-ID") (bracketed cid) (named (codes "Content-ID") refl refl) (bracketed_printed cid (identifier_printed cid e)), tt)

charset_printed : (charset : Option (List ℕ)) → is_token_or_none charset ≡ true → Each is_line_octet (charset_parameter charset)
charset_printed None e = tt
charset_printed (Some charset) e = each_append is_line_octet (codes "; charset=") charset (printed (codes "; charset=") refl) (token_printed charset e)

-- fields whose names begin with no "-"
is_dashless : (f : Field) → begins_dash f.name ≡ false → Each is_line_octet f.name → IsPrintedField f → IsDashless f
is_dashless f b n p = record { first = b; name = n; pieces = p.pieces }

type_dashless : (v : List ℕ) → Each is_line_octet v → IsDashless (type_field v)
type_dashless v e = is_dashless (type_field v) refl (printed (codes "Content-Type") refl) (type_printed v e)

encoding_dashless : IsDashless base64_field
encoding_dashless = is_dashless base64_field refl (printed (codes "Content-Transfer-Encoding") refl) encoding_printed

disposition_dashless : (inline : Bool) (name : Option (List ℕ)) → IsDashless (disposition_field inline name)
unfolding disposition_field
disposition_dashless inline name = is_dashless (disposition_field inline name) refl (printed (codes "Content-Disposition") refl) (disposition_printed inline name)

ids_dashless : (cid : Option (List ℕ)) → is_identifier_or_none cid ≡ true → AreDashless (id_fields cid)
ids_dashless None e = tt
ids_dashless (Some cid) e = (is_dashless (field (codes "Content-ID") (bracketed cid ∷ [])) refl (printed (codes "Content-ID") refl) (ids_printed (Some cid) e).0, tt)

-- a leaf's entity, none of whose lines begins with "-"
record IsQuietLeaf (e : Entity) (w : GivenLeaf) : Type 0 where
  is : IsLeafEntity e w
  dashless : dashless true (entity_text e) ≡ true

text_octets_of : (media : List ℕ) → Each is_line_octet media → Each is_line_octet (media ++ codes "; charset=utf-8")
text_octets_of media e = each_append is_line_octet media (codes "; charset=utf-8") e (printed (codes "; charset=utf-8") refl)

text_entity : (media value : List ℕ) → IsTextMedia media → Each is_line_octet media → IsUtf8 value → IsQuietLeaf (text_leaf media value) (given_text media value)
unfolding text_leaf
text_entity media value m e u =
    let o = crlf_octets value (text_octets value u) in
    let v = text_octets_of media e in
    record {
      is = record {
        fields = (type_printed (media ++ codes "; charset=utf-8") v, (encoding_printed, tt));
        say = text_says [] media value none_foreign m;
        octets = o;
        body = refl;
      };
      dashless = entity_dashless (text_leaf media value) (type_dashless (media ++ codes "; charset=utf-8") v, (encoding_dashless, tt)) (body_dashless (with_crlf value) o);
    }

plain_entity : (value : List ℕ) → IsUtf8 value → IsQuietLeaf (text_leaf (codes "text/plain") value) (given_text (codes "text/plain") value)
plain_entity value u = text_entity (codes "text/plain") value plain_text (printed (codes "text/plain") refl) u

html_entity : (value : List ℕ) → IsUtf8 value → IsQuietLeaf (text_leaf (codes "text/html") value) (given_text (codes "text/html") value)
html_entity value u = text_entity (codes "text/html") value html_text (printed (codes "text/html") refl) u

attachment_entity : (a : Attachment) → Each is_octet a.bytes → IsQuietLeaf (attachment_leaf a) (given_attachment a)
unfolding attachment_leaf
attachment_entity a o =
    let v = each_append is_line_octet a.media (charset_parameter a.charset) (media_printed a.media a.media_is) (charset_printed a.charset a.charset_is) in
    record {
      is = record {
        fields = (type_printed (a.media ++ charset_parameter a.charset) v, (encoding_printed, (disposition_printed a.inline a.name, ids_printed a.cid a.cid_is)));
        say = attachment_says a;
        octets = o;
        body = refl;
      };
      dashless = entity_dashless (attachment_leaf a)
          (type_dashless (a.media ++ charset_parameter a.charset) v, (encoding_dashless, (disposition_dashless a.inline a.name, ids_dashless a.cid a.cid_is))) (body_dashless a.bytes o);
    }

-- ---- rows of leaves

-- the texts of leaves in a multipart, whatever its boundary
record LeafParts (es : List Entity) (ws : List GivenLeaf) : Type 0 where
  texts : List (List ℕ)
  whole : map closed texts ≡ map entity_text es
  leaves : HaveLeafTexts ws texts
  apart : (y : List ℕ) → AreApart y texts

no_leaves : LeafParts [] []
no_leaves = record { texts = []; whole = refl; leaves = tt; apart = λ y. tt }

quiet_apart : (y : List ℕ) (e : Entity) (w : GivenLeaf) → IsQuietLeaf e w → (x : List ℕ) → closed x ≡ entity_text e → IsApart y x
quiet_apart y e w q x h = subst (λ (u : List ℕ). ArePlain y (lines u)) (sym h) (dashless_plain y (entity_text e) q.dashless)

one_more : (e : Entity) (w : GivenLeaf) (es : List Entity) (ws : List GivenLeaf) → IsQuietLeaf e w → LeafParts es ws → LeafParts (e ∷ es) (w ∷ ws)
one_more e w es ws q r =
    let p = leaf_part e w q.is in
    record {
      texts = p.text ∷ r.texts;
      whole = ap (λ (u : List ℕ). u ∷ map closed r.texts) p.whole ∙ ap (λ (us : List (List ℕ)). entity_text e ∷ us) r.whole;
      leaves = (record { fields = p.fields; len = p.len; is = p.is }, r.leaves);
      apart = λ y. (quiet_apart y e w q p.text p.whole, r.apart y);
    }

attached_parts : (list : List Attachment) → HaveOctets list → LeafParts (map attachment_leaf list) (map given_attachment list)
attached_parts [] o = no_leaves
attached_parts (a ∷ list) o = one_more (attachment_leaf a) (given_attachment a) (map attachment_leaf list) (map given_attachment list) (attachment_entity a o.0) (attached_parts list o.1)

-- ---- the two boundaries

fourth : List ℕ → ℕ
fourth (a ∷ b ∷ c ∷ d ∷ t) = d
fourth _ = 0

other_octet : ◌≢◌ {A = ℕ} 98 97
other_octet e = omega (arith, e)

-- a line of the inner multipart is none of the outer one's
inner_plain : (t : List ℕ) → (IsDelimiter (codes "_a") (45 ∷ 45 ∷ 95 ∷ 98 ∷ t) → ⊥) × (IsClosing (codes "_a") (45 ∷ 45 ∷ 95 ∷ 98 ∷ t) → ⊥)
unfolding fourth
inner_plain t = (λ d. other_octet (ap fourth d.whole), λ c. other_octet (ap fourth c.whole))

plain_append : (y : List ℕ) (ls ms : List (List ℕ)) → ArePlain y ls → ArePlain y ms → ArePlain y (ls ++ ms)
plain_append y [] ms a b = b
plain_append y (l ∷ ls) ms a b = (a.0, plain_append y ls ms a.1 b)

inner_body : (xs : List (List ℕ)) → AreApart (codes "_a") xs → ArePlain (codes "_a") (lines (body_to (codes "_b") crlf xs))
unfolding body_to
inner_body [] a = subst (λ (ls : List (List ℕ)). ArePlain (codes "_a") ls) (sym (closes_with_end (codes "_b") refl).alone) (inner_plain (45 ∷ 45 ∷ crlf), tt)
inner_body (x ∷ xs) a =
    let more = body_to (codes "_b") crlf xs in
    subst (λ (ls : List (List ℕ)). ArePlain (codes "_a") ls) (sym (delimiter_first (codes "_b") (closed x ++ more) refl))
    (inner_plain crlf, subst (λ (ls : List (List ℕ)). ArePlain (codes "_a") ls) (sym (closed_lines x more)) (plain_append (codes "_a") (lines (closed x)) (lines more) a.0 (inner_body xs a.1)))

-- ---- multiparts

-- the alternative in a multipart/mixed, without the end of its last line
record AlternativePart (text html : List ℕ) : Type 0 where
  first : List ℕ
  rest : List (List ℕ)
  leaves : HaveLeafTexts (shown_leaves (Some text) (Some html)) (first ∷ rest)
  part : List ℕ
  whole : closed part ≡ entity_text (alternative text html)
  len : ℕ
  is : IsMultiText (type_field (codes "multipart/alternative; boundary=_b") ∷ []) len (codes "multipart/alternative") 95 (98 ∷ []) [] first rest part
  apart : IsApart (codes "_a") part

abbrev both_entities : List ℕ → List ℕ → List Entity
both_entities text html = text_leaf (codes "text/plain") text ∷ text_leaf (codes "text/html") html ∷ []

both_parts : (text html : List ℕ) → IsUtf8 text → IsUtf8 html → LeafParts (both_entities text html) (shown_leaves (Some text) (Some html))
both_parts text html u v =
    one_more (text_leaf (codes "text/plain") text) (given_text (codes "text/plain") text) (text_leaf (codes "text/html") html ∷ []) (given_text (codes "text/html") html ∷ []) (plain_entity text u)
    (one_more (text_leaf (codes "text/html") html) (given_text (codes "text/html") html) [] [] (html_entity html v) no_leaves)

alternative_octets : Each is_line_octet (codes "multipart/alternative; boundary=_b")
alternative_octets = printed (codes "multipart/alternative; boundary=_b") refl

abbrev alternative_fields : List Field
alternative_fields = type_field (codes "multipart/alternative; boundary=_b") ∷ []

alternative_of : (text html : List ℕ) (xs : List (List ℕ)) → map closed xs ≡ map entity_text (both_entities text html) → HaveLeafTexts (shown_leaves (Some text) (Some html)) xs
    → ((y : List ℕ) → AreApart y xs) → AlternativePart text html
unfolding alternative
alternative_of text html [] w l a = absurd l
alternative_of text html (x ∷ xs) w l a =
    let fs = alternative_fields in
    let inner = body_to (codes "_b") [] (x ∷ xs) in
    let f : Entity = record { fields = fs; body = inner } in
    let outer = multipart_body (codes "_b") (map entity_text (both_entities text html)) in
    let body : body_to (codes "_b") crlf (x ∷ xs) ≡ outer = body_written (codes "_b") (x ∷ xs) ∙ ap (multipart_body (codes "_b")) w in
    let ended : inner ++ crlf ≡ outer = sym (body_ended (codes "_b") crlf (x ∷ xs)) ∙ body in
    let whole : closed (entity_text f) ≡ entity_text (alternative text html) =
    append_assoc (fields_text fs) (13 ∷ 10 ∷ inner) crlf ∙ ap (λ (t : List ℕ). fields_text fs ++ 13 ∷ 10 ∷ t) ended in
    let head : ArePlain (codes "_a") (lines (closed (fields_text fs))) =
    dashless_plain (codes "_a") (closed (fields_text fs)) (fields_dashless fs crlf (type_dashless (codes "multipart/alternative; boundary=_b") alternative_octets, tt) refl) in
    let texts : entity_text (alternative text html) ≡ closed (fields_text fs) ++ body_to (codes "_b") crlf (x ∷ xs) =
    ap (λ (t : List ℕ). fields_text fs ++ 13 ∷ 10 ∷ t) (sym body) ∙ sym (append_assoc (fields_text fs) crlf (body_to (codes "_b") crlf (x ∷ xs))) in
    record {
      first = x;
      rest = xs;
      leaves = l;
      part = entity_text f;
      whole = whole;
      len = length (fields_text fs) + 2;
      is = record {
        header = entity_header f (type_printed (codes "multipart/alternative; boundary=_b") alternative_octets, tt);
        say = alternative_says [] none_foreign;
        body = drop-append-add (fields_text fs) (13 ∷ 10 ∷ inner) 2;
        no_lf = refl;
        closes = closes_without_end (codes "_b") refl;
        apart = a (codes "_b");
      };
      apart = subst (λ (t : List ℕ). ArePlain (codes "_a") (lines t)) (sym (whole ∙ texts))
          (subst (λ (ls : List (List ℕ)). ArePlain (codes "_a") ls) (sym (closed_lines (fields_text fs) (body_to (codes "_b") crlf (x ∷ xs))))
          (plain_append (codes "_a") (lines (closed (fields_text fs))) (lines (body_to (codes "_b") crlf (x ∷ xs))) head (inner_body (x ∷ xs) (a (codes "_a")))));
    }

alternative_part : (text html : List ℕ) → IsUtf8 text → IsUtf8 html → AlternativePart text html
alternative_part text html u v = let q = both_parts text html u v in alternative_of text html q.texts q.whole q.leaves q.apart

-- ---- the root

-- what the octets of a message are
record IsRoot (pre : List Field) (e : Entity) (t : List ℕ) : Type 0 where
  end : ℕ
  header : IsHeader (map read_field (pre ++ e.fields)) end t
  body : drop end t ≡ e.body
  foreign : AreForeign pre

whole_range : (t : List ℕ) → slice_range t 0 (length t) ≡ t
whole_range t = ap (λ (u : List ℕ). slice_range u 0 (length t)) (sym (append-nil t)) ∙ slice_at [] t [] 0 (length t) refl (omega arith)

root_leaf : (pre : List Field) (media value t : List ℕ) (p : Part) (next : ℕ) → IsTextMedia media → IsUtf8 value → IsRoot pre (text_leaf media value) t → IsTree 64 t 0 (length t) text_plain 1 p next
    → IsLeafOf t 1 (given_text media value) p
unfolding text_leaf
root_leaf pre media value t p next m u r tree =
    let is : IsLeafText (pre ++ (text_leaf media value).fields) r.end (given_text media value) t = record {
      header = r.header;
      say = text_says pre media value r.foreign m;
      spelled = subst (λ (x : List ℕ). Rattle.header_words.specs.Transfer.IsBody Rattle.header_words.specs.declared.transfer.Encoding.TheVariants.Base64 (with_crlf value) false x) (sym r.body)
          (body_is_read (with_crlf value) (crlf_octets value (text_octets value u)));
    } in
    (leaf_read 63 t 0 (length t) text_plain 1 p next (pre ++ (text_leaf media value).fields) r.end (given_text media value) t (whole_range t) is tree).0

-- the leaves of a multipart that has leaves alone
multi_leaves : (more : ℕ) (b : List ℕ) (media : List ℕ) (ws : List GivenLeaf) (xs : List (List ℕ)) (p : Part) (next : ℕ) → HaveLeafTexts ws xs → IsWrittenMulti (suc more) b 1 media xs p next
    → AreLeavesOf b 1 ws (children p) × (next ≡ 1 + length ws)
multi_leaves more b media ws xs p next l w = leaves_read more b w.base text_plain w.pieces 1 (children p) next ws xs w.trees w.stand l

root_alternative_of : (pre : List Field) (text html : List ℕ) (xs : List (List ℕ)) (t : List ℕ) (p : Part) (next : ℕ) → IsRoot pre (alternative text html) t
    → map closed xs ≡ map entity_text (both_entities text html) → HaveLeafTexts (shown_leaves (Some text) (Some html)) xs → AreApart (codes "_b") xs → IsTree 64 t 0 (length t) text_plain 1 p next
    → IsMultipartOf (codes "multipart/alternative") p × AreLeavesOf t 1 (shown_leaves (Some text) (Some html)) (children p)
unfolding alternative
root_alternative_of pre text html [] t p next r w l a tree = absurd l
root_alternative_of pre text html (x ∷ xs) t p next r w l a tree =
    let body : drop r.end t ≡ body_to (codes "_b") crlf (x ∷ xs) = r.body ∙ sym (body_written (codes "_b") (x ∷ xs) ∙ ap (multipart_body (codes "_b")) w) in
    let m = multi_read 63 t 0 (length t) text_plain 1 p next (pre ++ alternative_fields) r.end (codes "multipart/alternative") 95 (98 ∷ []) crlf x xs t (whole_range t)
    (record { header = r.header; say = alternative_says pre r.foreign; body = body; no_lf = refl; closes = closes_with_end (codes "_b") refl; apart = a }) tree in
    (m.multipart, (multi_leaves 62 t (codes "multipart/alternative") (shown_leaves (Some text) (Some html)) (x ∷ xs) p next l m).0)

root_alternative : (pre : List Field) (text html t : List ℕ) (p : Part) (next : ℕ) → IsUtf8 text → IsUtf8 html → IsRoot pre (alternative text html) t → IsTree 64 t 0 (length t) text_plain 1 p next
    → IsMultipartOf (codes "multipart/alternative") p × AreLeavesOf t 1 (shown_leaves (Some text) (Some html)) (children p)
root_alternative pre text html t p next u v r tree =
    let q = both_parts text html u v in
    root_alternative_of pre text html q.texts t p next r q.whole q.leaves (q.apart (codes "_b")) tree

-- ---- a multipart/mixed

-- the root is one, of these texts
root_mixed : (pre : List Field) (shown : Option Entity) (list : List Attachment) (x : List ℕ) (xs : List (List ℕ)) (t : List ℕ) (p : Part) (next : ℕ) → IsRoot pre (mixed shown list) t
    → map closed (x ∷ xs) ≡ map entity_text (option_to_list shown ++ map attachment_leaf list) → AreApart (codes "_a") (x ∷ xs) → IsTree 64 t 0 (length t) text_plain 1 p next
    → IsWrittenMulti 63 t 1 (codes "multipart/mixed") (x ∷ xs) p next
unfolding mixed
root_mixed pre shown list x xs t p next r w a tree =
    let body : drop r.end t ≡ body_to (codes "_a") crlf (x ∷ xs) = r.body ∙ sym (body_written (codes "_a") (x ∷ xs) ∙ ap (multipart_body (codes "_a")) w) in
    multi_read 63 t 0 (length t) text_plain 1 p next (pre ++ type_field (codes "multipart/mixed; boundary=_a") ∷ []) r.end (codes "multipart/mixed") 95 (97 ∷ []) crlf x xs t (whole_range t)
    (record { header = r.header; say = mixed_says pre r.foreign; body = body; no_lf = refl; closes = closes_with_end (codes "_a") refl; apart = a }) tree

-- the leaves after the first
record FirstLeaf (t : List ℕ) (w : GivenLeaf) (ws : List GivenLeaf) (cs : List Part) : Type 0 where
  first : Part
  others : List Part
  whole : cs ≡ first ∷ others
  is : IsLeafOf t 1 w first
  are : AreLeavesOf t 2 ws others

first_leaf : (t : List ℕ) (w : GivenLeaf) (ws : List GivenLeaf) (cs : List Part) → AreLeavesOf t 1 (w ∷ ws) cs → FirstLeaf t w ws cs
first_leaf t w ws [] l = absurd l
first_leaf t w ws (c ∷ cs) l = record { first = c; others = cs; whole = refl; is = l.0; are = l.1 }

mixed_alone : (pre : List Field) (a : Attachment) (list : List Attachment) (t : List ℕ) (p : Part) (next : ℕ) → HaveOctets (a ∷ list) → IsRoot pre (mixed None (a ∷ list)) t
    → IsTree 64 t 0 (length t) text_plain 1 p next → IsMixedOf t None None (a ∷ list) p
unfolding one_more
mixed_alone pre a list t p next o r tree =
    let q = attached_parts list o.1 in
    let k = one_more (attachment_leaf a) (given_attachment a) (map attachment_leaf list) (map given_attachment list) (attachment_entity a o.0) q in
    let f = leaf_part (attachment_leaf a) (given_attachment a) (attachment_entity a o.0).is in
    let m = root_mixed pre None (a ∷ list) f.text q.texts t p next r k.whole (k.apart (codes "_a")) tree in
    let l = multi_leaves 62 t (codes "multipart/mixed") (map given_attachment (a ∷ list)) (f.text ∷ q.texts) p next k.leaves m in
    record { multipart = m.multipart; shown = []; attached = children p; whole = refl; are_shown = refl; are_attached = l.0 }

-- behind one text
record MixedText (t : List ℕ) (w : GivenLeaf) (list : List Attachment) (p : Part) : Type 0 where
  multipart : IsMultipartOf (codes "multipart/mixed") p
  leaves : FirstLeaf t w (map given_attachment list) (children p)

mixed_text : (pre : List Field) (e : Entity) (w : GivenLeaf) (list : List Attachment) (t : List ℕ) (p : Part) (next : ℕ) → IsQuietLeaf e w → HaveOctets list
    → IsRoot pre (mixed (Some e) list) t → IsTree 64 t 0 (length t) text_plain 1 p next → MixedText t w list p
unfolding one_more
mixed_text pre e w list t p next s o r tree =
    let q = attached_parts list o in
    let k = one_more e w (map attachment_leaf list) (map given_attachment list) s q in
    let f = leaf_part e w s.is in
    let m = root_mixed pre (Some e) list f.text q.texts t p next r k.whole (k.apart (codes "_a")) tree in
    let l = multi_leaves 62 t (codes "multipart/mixed") (w ∷ map given_attachment list) (f.text ∷ q.texts) p next k.leaves m in
    record { multipart = m.multipart; leaves = first_leaf t w (map given_attachment list) (children p) l.0 }

-- behind an alternative
record MixedBoth (t text html : List ℕ) (list : List Attachment) (p : Part) : Type 0 where
  multipart : IsMultipartOf (codes "multipart/mixed") p
  first : Part
  others : List Part
  whole : children p ≡ first ∷ others
  is : IsMultipartOf (codes "multipart/alternative") first × AreLeavesOf t 1 (shown_leaves (Some text) (Some html)) (children first)
  are : AreLeavesOf t 3 (map given_attachment list) others

both_first : (t text html : List ℕ) (list : List Attachment) (p : Part) (base : ℕ) (qs : List Piece) (cs : List Part) (next : ℕ) (xs : List (List ℕ)) (a : AlternativePart text html)
    → IsMultipartOf (codes "multipart/mixed") p → children p ≡ cs → HaveLeafTexts (map given_attachment list) xs → StandAt t base qs (a.part ∷ xs)
    → AreTrees (IsTree 63 t) base text_plain qs 1 cs next → MixedBoth t text html list p
both_first t text html list p base [] cs next xs a m w l s trees = absurd (let n : a.part ∷ xs ≡ [] = s in cc)
both_first t text html list p base (q ∷ qs) [] next xs a m w l s trees = absurd trees
both_first t text html list p base (q ∷ qs) (c ∷ cs) next xs a m w l s trees =
    let inner = multi_read 62 t (base + q.start) (base + q.end) text_plain 1 c trees.0 (type_field (codes "multipart/alternative; boundary=_b") ∷ []) a.len (codes "multipart/alternative") 95 (98 ∷ []) [] a.first a.rest a.part
    s.0 a.is trees.1 in
    let leaves = multi_leaves 61 t (codes "multipart/alternative") (shown_leaves (Some text) (Some html)) (a.first ∷ a.rest) c trees.0 a.leaves inner in
    let more = leaves_read 62 t base text_plain qs 3 cs next (map given_attachment list) xs (subst (λ (n : ℕ). AreTrees (IsTree 63 t) base text_plain qs n cs next) leaves.1 trees.2) s.1 l in
    record { multipart = m; first = c; others = cs; whole = w; is = (inner.multipart, leaves.0); are = more.0 }

mixed_both : (pre : List Field) (text html : List ℕ) (list : List Attachment) (t : List ℕ) (p : Part) (next : ℕ) → IsUtf8 text → IsUtf8 html → HaveOctets list
    → IsRoot pre (mixed (Some (alternative text html)) list) t → IsTree 64 t 0 (length t) text_plain 1 p next → MixedBoth t text html list p
mixed_both pre text html list t p next u v o r tree =
    let a = alternative_part text html u v in
    let q = attached_parts list o in
    let whole : map closed (a.part ∷ q.texts) ≡ map entity_text (alternative text html ∷ map attachment_leaf list) =
    ap (λ (x : List ℕ). x ∷ map closed q.texts) a.whole ∙ ap (λ (us : List (List ℕ)). entity_text (alternative text html) ∷ us) q.whole in
    let m = root_mixed pre (Some (alternative text html)) list a.part q.texts t p next r whole (a.apart, q.apart (codes "_a")) tree in
    both_first t text html list p m.base m.pieces (children p) next q.texts a m.multipart refl q.leaves m.stand m.trees

-- ---- all shapes

utf8_of : (x : List ℕ) → is_text (Some x) ≡ true → IsUtf8 x
utf8_of x e = IsUtf8-from_is_utf8 x e

alone_is : (pre : List Field) (text html : Option (List ℕ)) (t : List ℕ) (p : Part) (next : ℕ) → is_text text ≡ true → is_text html ≡ true → IsRoot pre (alone (shown_part text html)) t
    → IsTree 64 t 0 (length t) text_plain 1 p next → IsShown t text html p
alone_is pre None None t p next u v r tree = root_leaf pre (codes "text/plain") [] t p next plain_text IsUtf8-nil r tree
alone_is pre (Some text) None t p next u v r tree = root_leaf pre (codes "text/plain") text t p next plain_text (utf8_of text u) r tree
alone_is pre None (Some html) t p next u v r tree = root_leaf pre (codes "text/html") html t p next html_text (utf8_of html v) r tree
alone_is pre (Some text) (Some html) t p next u v r tree = root_alternative pre text html t p next (utf8_of text u) (utf8_of html v) r tree

mixed_is : (pre : List Field) (text html : Option (List ℕ)) (a : Attachment) (list : List Attachment) (t : List ℕ) (p : Part) (next : ℕ) → is_text text ≡ true → is_text html ≡ true
    → HaveOctets (a ∷ list) → IsRoot pre (mixed (shown_part text html) (a ∷ list)) t → IsTree 64 t 0 (length t) text_plain 1 p next → IsMixedOf t text html (a ∷ list) p
mixed_is pre None None a list t p next u v o r tree = mixed_alone pre a list t p next o r tree
mixed_is pre (Some text) None a list t p next u v o r tree =
    let m = mixed_text pre (text_leaf (codes "text/plain") text) (given_text (codes "text/plain") text) (a ∷ list) t p next (plain_entity text (utf8_of text u)) o r tree in
    record { multipart = m.multipart; shown = m.leaves.first ∷ []; attached = m.leaves.others; whole = m.leaves.whole; are_shown = (m.leaves.first, refl, m.leaves.is); are_attached = m.leaves.are }
mixed_is pre None (Some html) a list t p next u v o r tree =
    let m = mixed_text pre (text_leaf (codes "text/html") html) (given_text (codes "text/html") html) (a ∷ list) t p next (html_entity html (utf8_of html v)) o r tree in
    record { multipart = m.multipart; shown = m.leaves.first ∷ []; attached = m.leaves.others; whole = m.leaves.whole; are_shown = (m.leaves.first, refl, m.leaves.is); are_attached = m.leaves.are }
mixed_is pre (Some text) (Some html) a list t p next u v o r tree =
    let m = mixed_both pre text html (a ∷ list) t p next (utf8_of text u) (utf8_of html v) o r tree in
    record { multipart = m.multipart; shown = m.first ∷ []; attached = m.others; whole = m.whole; are_shown = (m.first, refl, m.is); are_attached = m.are }

tree_is : (pre : List Field) (text html : Option (List ℕ)) (list : List Attachment) (t : List ℕ) (p : Part) (next : ℕ) → is_text text ≡ true → is_text html ≡ true → HaveOctets list
    → IsRoot pre (whole_part (shown_part text html) list) t → IsTree 64 t 0 (length t) text_plain 1 p next → IsTreeOf t text html list p
tree_is pre text html [] t p next u v o r tree = alone_is pre text html t p next u v r tree
tree_is pre text html (a ∷ list) t p next u v o r tree = mixed_is pre text html a list t p next u v o r tree

-- ---- the fields before those of the part

-- no field of the name in all rows
all_joined : (n : List ℕ) (fs : List Field) (rows : List (List Field)) → Each (is_other n) fs → AllOther n rows → Each (is_other n) (joined fs rows)
all_joined n fs [] e a = e
all_joined n fs (gs ∷ rows) e a = all_joined n (fs ++ gs) rows (each_append (is_other n) fs gs e a.0) a.1

abbrev other_than : List ℕ → List ℕ → Type 0
other_than m n = is_same_text m n ≡ false

-- another name than those of a draft's fields
abbrev IsOwn : List ℕ → Type 0
IsOwn n =
    other_than (codes "Date") n × other_than (codes "From") n × other_than (codes "Sender") n × other_than (codes "Reply-To") n × other_than (codes "To") n × other_than (codes "Cc") n
    × other_than (codes "Bcc") n × other_than (codes "Subject") n × other_than (codes "Message-ID") n × other_than (codes "In-Reply-To") n × other_than (codes "References") n
    × other_than (codes "MIME-Version") n

own_other : (d : Draft) (now : ℤ) (word : ℕ) (fs : List Field) (a : AreDraftFields d now word fs) (n : List ℕ) → IsOwn n → Each (is_other n) (fs ++ mime_version ∷ [])
own_other d now word fs a n o =
    let r = are_rows d now word fs a in
    each_append (is_other n) fs (mime_version ∷ [])
    (subst (λ (gs : List Field). Each (is_other n) gs) (sym a.whole)
    (all_joined n a.date (a.from ∷ a.sender ∷ a.reply_to ∷ a.to ∷ a.cc ∷ a.bcc ∷ a.subject ∷ a.message_id ∷ a.in_reply_to ∷ a.references ∷ []) (r.date n o.0)
    (r.from n o.1, (r.sender n o.2, (r.reply_to n o.3, (r.to n o.4, (r.cc n o.5, (r.bcc n o.6, (r.subject n o.7, (r.message_id n o.8, (r.in_reply_to n o.9, (r.references n o.10, tt))))))))))))
    (ap not o.11, tt)

foreign : (d : Draft) (now : ℤ) (word : ℕ) (fs : List Field) (a : AreDraftFields d now word fs) → AreForeign (fs ++ mime_version ∷ [])
foreign d now word fs a = record {
  type = own_other d now word fs a (codes "content-type") (refl, refl, refl, refl, refl, refl, refl, refl, refl, refl, refl, refl);
  disposition = own_other d now word fs a (codes "content-disposition") (refl, refl, refl, refl, refl, refl, refl, refl, refl, refl, refl, refl);
  encoding = own_other d now word fs a (codes "content-transfer-encoding") (refl, refl, refl, refl, refl, refl, refl, refl, refl, refl, refl, refl);
  id = own_other d now word fs a (codes "content-id") (refl, refl, refl, refl, refl, refl, refl, refl, refl, refl, refl, refl);
  language = own_other d now word fs a (codes "content-language") (refl, refl, refl, refl, refl, refl, refl, refl, refl, refl, refl, refl);
  location = own_other d now word fs a (codes "content-location") (refl, refl, refl, refl, refl, refl, refl, refl, refl, refl, refl, refl);
}

pub parts_are_read : (d : Draft) (now : ℤ) (word : ℕ) (t : List ℕ) (p : Part) → HaveOctets d.attachments → (HasTooManyParts t → ⊥) → IsMessageText d now word t → IsMessage t p
    → IsTreeOfDraft t d p
parts_are_read d now word t p o small is m = by m.bounded
  where
    tree_read : IsTree 64 t 0 (length t) text_plain 1 p m.next → IsTreeOfDraft t d p
    tree_read tree =
        let h = header_read d now word t is in
        let pre = h.fields ++ mime_version ∷ [] in
        let r : IsRoot pre (draft_part d) t = record {
          end = h.end;
          header = subst (λ (fs : List Field). IsHeader (map read_field fs) h.end t) (sym (append_assoc h.fields (mime_version ∷ []) (draft_part d).fields)) h.header;
          body = h.body_is;
          foreign = foreign d now word h.fields h.are;
        } in
        tree_is pre d.text d.html d.attachments t p m.next d.text_is d.html_is o r tree

    by : ((m.levels ≡ MAX_DEPTH) × (parts_within MAX_DEPTH p ≤ MAX_PARTS)) ⊎ ((m.levels ≡ 0) × HasTooManyParts t) → IsTreeOfDraft t d p
    by (inl b) = tree_read (subst (λ (n : ℕ). IsTree n t 0 (length t) text_plain 1 p m.next) b.0 m.tree)
    by (inr c) = absurd (small c.1)
