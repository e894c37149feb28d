-- The headers of parts that their written fields give.
use Rattle.std.proofs.Common.{◌≡◌, ◌≢◌, ℕ, Bool, true, false, List, [], ◌∷◌, ◌++◌, map, codes, refl, sym, ap, ◌∙◌, subst, append_assoc, Option, Some, None}
use Rattle.std.specs.Prelude.{unwrap_or}
use Rattle.std.specs.Option.{option_map}
use Rattle.std.proofs.lemmas.List.{append-nil}
use Rattle.text_words.specs.Cuts.{Each, front}
use Rattle.header_tokens.specs.declared.token.Alphabet.TheVariants as alphabet
use Rattle.header_tokens.specs.Tokens.{Spelled}
use Rattle.header_tokens.proofs.LeadingLemmas.{one_leading_lexemes}
use Rattle.header_tokens.proofs.LexemeLemmas.{lexemes_are}
use Rattle.mail_header.specs.RawForms.{raw_form}
use Rattle.mail_drafts.specs.declared.attachment.Attachment.{Attachment}
use Rattle.mail_drafts.specs.Identifiers.{is_identifier, is_identifier_or_none}
use Rattle.mail_drafts.specs.Lines.{is_line}
use Rattle.mail_drafts.specs.Mailboxes.{is_line_or_none}
use Rattle.mail_drafts.specs.MediaTypes.{is_token_or_none}
use Rattle.message_lines.specs.Folding.{Field, FieldPiece, field, field_value, begun, plain_piece, is_short, line_with, next_line, gap, laid}
use Rattle.message_lines.specs.Ids.{bracketed}
use Rattle.message_laws.specs.Headers.{read_field}
use Rattle.message_laws.proofs.LastFields.{last}
use Rattle.message_laws.proofs.Tokens.{atom_token}
use Rattle.message_texts.specs.Parts.{base64_field, text_leaf, attachment_leaf, charset_parameter, disposition, disposition_field, disposition_pieces, file_name, id_fields}
use Rattle.mime_fields.specs.declared.header.PartHeader.{PartHeader}
use Rattle.mime_fields.specs.ContentTypes.{lower}
use Rattle.mime_fields.specs.Dispositions.{leading_token, IsFileName, Extended, OfType}
use Rattle.mime_fields.specs.PartHeaders.{field_octets, IsTrimmedTextOf, IsIdOf, mechanism, IsPartHeader}
use Rattle.mime_fields.specs.reading.MimeLexemes.{mime_lexemes}
use Rattle.mime_tree.specs.Heads.{is_multipart, is_text, is_digest, leaf_charset, us_ascii}
use Rattle.address_laws.specs.MailboxReading.{shown_name}
use Rattle.address_laws.proofs.DraftRows.{is_other, before}
use Rattle.leaf_laws.specs.LeafReading.{GivenLeaf, given_text, given_attachment}
use Rattle.leaf_laws.proofs.MimeValues.{token_lexemes}
use Rattle.leaf_laws.proofs.TypeFields.{IsTokenText, token_text, IsMediaText, type_alone, charset_value, type_charset, boundary_value, type_boundary, IsLeafMedia, leaf_media_is, IsTypeOf}
use Rattle.leaf_laws.proofs.NameFields.{IsDispositionOf, disposition_alone, named_value, disposition_named, no_disposition}
use Rattle.leaf_laws.proofs.IdFields.{id_is_read}

-- ---- what a header says

-- the header is that of a leaf
pub record SaysLeaf (h : PartHeader) (w : GivenLeaf) : Type 0 where
  pub media : h.media ≡ Some w.media
  pub single : is_multipart w.media ≡ false
  pub charset : leaf_charset w.media h.charset ≡ w.charset
  pub disposition : h.disposition ≡ w.disposition
  pub name : h.name ≡ w.name
  pub cid : h.cid ≡ w.cid
  pub encoding : h.encoding ≡ Some (codes "base64")

pub record SayLeaf (fs : List Field) (w : GivenLeaf) : Type 0 where
  pub header : PartHeader
  pub is : IsPartHeader (map read_field fs) header
  pub says : SaysLeaf header w

-- the header is that of a multipart, with this boundary
pub record SaysMulti (h : PartHeader) (media : List ℕ) (c : ℕ) (y : List ℕ) : Type 0 where
  pub media_is : h.media ≡ Some media
  pub multi : is_multipart media ≡ true
  pub boundary : h.boundary ≡ Some (c ∷ y)
  pub no_digest : is_digest media ≡ false

pub record SayMulti (fs : List Field) (media : List ℕ) (c : ℕ) (y : List ℕ) : Type 0 where
  pub header : PartHeader
  pub is : IsPartHeader (map read_field fs) header
  pub says : SaysMulti header media c y

-- ---- values by names

-- fields that say nothing of a part
pub record AreForeign (fs : List Field) : Type 0 where
  pub type : Each (is_other (codes "content-type")) fs
  pub disposition : Each (is_other (codes "content-disposition")) fs
  pub encoding : Each (is_other (codes "content-transfer-encoding")) fs
  pub id : Each (is_other (codes "content-id")) fs
  pub language : Each (is_other (codes "content-language")) fs
  pub location : Each (is_other (codes "content-location")) fs

pub none_foreign : AreForeign []
none_foreign = record { type = tt; disposition = tt; encoding = tt; id = tt; language = tt; location = tt }

record HaveValues (fs : List Field) (ct cd : List ℕ) (te cid : Option (List ℕ)) : Type 0 where
  type : last (codes "content-type") fs ≡ Some ct
  disposition : unwrap_or (last (codes "content-disposition") fs) [] ≡ cd
  encoding : last (codes "content-transfer-encoding") fs ≡ te
  id : last (codes "content-id") fs ≡ cid
  language : last (codes "content-language") fs ≡ None
  location : last (codes "content-location") fs ≡ None

-- also behind foreign fields
behind : (pre fs : List Field) (ct cd : List ℕ) (te id : Option (List ℕ)) → AreForeign pre → HaveValues fs ct cd te id → HaveValues (pre ++ fs) ct cd te id
behind pre fs ct cd te id f v = record {
  type = before (codes "content-type") pre fs f.type ∙ v.type;
  disposition = ap (λ (o : Option (List ℕ)). unwrap_or o []) (before (codes "content-disposition") pre fs f.disposition) ∙ v.disposition;
  encoding = before (codes "content-transfer-encoding") pre fs f.encoding ∙ v.encoding;
  id = before (codes "content-id") pre fs f.id ∙ v.id;
  language = before (codes "content-language") pre fs f.language ∙ v.language;
  location = before (codes "content-location") pre fs f.location ∙ v.location;
}

abbrev header_of : (media boundary charset kind name cid encoding : Option (List ℕ)) → PartHeader
header_of media boundary charset kind name cid encoding = record {
  media = media;
  boundary = boundary;
  charset = charset;
  disposition = kind;
  name = name;
  cid = cid;
  language = None;
  location = None;
  encoding = encoding;
}

header_is : (fs : List Field) (ct cd : List ℕ) (te id media boundary charset kind extended name cid encoding : Option (List ℕ)) → HaveValues fs ct cd te id
    → IsTypeOf ct media boundary charset → IsDispositionOf cd kind extended → IsFileName extended None None name → IsIdOf id cid → encoding ≡ mechanism te (mime_lexemes (unwrap_or te []))
    → IsPartHeader (map read_field fs) (header_of media boundary charset kind name cid encoding)
header_is fs ct cd te id media boundary charset kind extended name cid encoding v c i n k e =
    let type_is : ct ≡ field_octets (map read_field fs) (codes "content-type") = sym (ap (λ (o : Option (List ℕ)). unwrap_or o []) v.type) in
    let said = subst (λ (u : List ℕ). IsTypeOf u media boundary charset) type_is c in
    let shown = subst (λ (u : List ℕ). IsDispositionOf u kind extended) (sym v.disposition) i in
    record {
      media = said.media;
      boundary = said.has_boundary;
      charset_octets = said.charset_octets;
      has_charset = said.has_charset;
      charset = said.charset_is;
      disposition = shown.has_kind;
      extended_octets = shown.extended_octets;
      has_extended = shown.has_extended;
      file = None;
      has_file = shown.no_file;
      type_name = None;
      has_type_name = said.no_name;
      name = subst (λ (o : Option (List ℕ)). IsFileName o None None name) shown.extended_is n;
      cid = subst (λ (o : Option (List ℕ)). IsIdOf o cid) (sym v.id) k;
      language = sym (ap (option_map raw_form) v.language);
      location = subst (λ (o : Option (List ℕ)). IsTrimmedTextOf o None) (sym v.location) refl;
      transfer_encoding = mime_lexemes (field_octets (map read_field fs) (codes "content-transfer-encoding"));
      has_transfer_encoding = lexemes_are alphabet.Mime (field_octets (map read_field fs) (codes "content-transfer-encoding"));
      encoding = subst (λ (o : Option (List ℕ)). encoding ≡ mechanism o (mime_lexemes (unwrap_or o []))) (sym v.encoding) e;
    }

-- ---- the encoding

base64_lexemes : mime_lexemes (codes " base64") ≡ atom_token (codes "base64") ∷ []
base64_lexemes =
    one_leading_lexemes alphabet.Mime (mime_lexemes (codes " base64")) (atom_token (codes "base64") ∷ []) (codes " base64") (lexemes_are alphabet.Mime (codes " base64"))
    (token_lexemes true (codes "base64") (token_text (codes "base64") refl).run)

base64_said : Some (codes "base64") ≡ mechanism (Some (codes " base64")) (mime_lexemes (codes " base64"))
base64_said = sym (ap (λ (ls : List Spelled). Some (unwrap_or (leading_token ls) [])) base64_lexemes)

base64_raw : field_value base64_field ≡ codes " base64"
unfolding laid
base64_raw = refl

-- a value of one piece
abbrev short_of : List ℕ → List ℕ → Bool
short_of name v = is_short (line_with (begun name) (plain_piece v))

one_value : (name v : List ℕ) → field_value (field name (v ∷ [])) ≡ gap (short_of name v) ++ v
unfolding laid
one_value name v = ap (λ (u : List ℕ). gap (short_of name v) ++ u) (append-nil v)

-- ---- texts

abbrev type_field : List ℕ → Field
type_field v = field (codes "Content-Type") (v ∷ [])

text_values : (v : List ℕ) → HaveValues (type_field v ∷ base64_field ∷ []) (gap (short_of (codes "Content-Type") v) ++ v) [] (Some (codes " base64")) None
text_values v = record {
  type = ap (λ (u : List ℕ). Some u) (one_value (codes "Content-Type") v);
  disposition = refl;
  encoding = ap (λ (u : List ℕ). Some u) base64_raw;
  id = refl;
  language = refl;
  location = refl;
}

-- a text's media type
pub record IsTextMedia (media : List ℕ) : Type 0 where
  pub type : List ℕ
  pub subtype : List ℕ
  pub is : IsMediaText media type subtype
  pub low : lower media ≡ media
  pub single : is_multipart media ≡ false
  pub text : is_text media ≡ true

pub plain_text : IsTextMedia (codes "text/plain")
unfolding is_multipart is_text front
plain_text = record {
  type = codes "text";
  subtype = codes "plain";
  is = record { whole = refl; is_type = token_text (codes "text") refl; is_subtype = token_text (codes "plain") refl };
  low = refl;
  single = refl;
  text = refl;
}

pub html_text : IsTextMedia (codes "text/html")
unfolding is_multipart is_text front
html_text = record {
  type = codes "text";
  subtype = codes "html";
  is = record { whole = refl; is_type = token_text (codes "text") refl; is_subtype = token_text (codes "html") refl };
  low = refl;
  single = refl;
  text = refl;
}

text_charset : (b : Bool) (c : List ℕ) → b ≡ true → (Rattle.std.proofs.Common.cond b (Some (unwrap_or (Some c) us_ascii)) (Some c)) ≡ Some c
text_charset true c e = refl
text_charset false c e = refl

pub text_says : (pre : List Field) (media value : List ℕ) → AreForeign pre → IsTextMedia media → SayLeaf (pre ++ (text_leaf media value).fields) (given_text media value)
unfolding text_leaf
text_says pre media value f m =
    let v = media ++ codes "; charset=utf-8" in
    let fs = type_field v ∷ base64_field ∷ [] in
    let short = short_of (codes "Content-Type") v in
    let ct = charset_value short media (codes "utf-8") in
    let vs = behind pre fs ct [] (Some (codes " base64")) None f (text_values v) in
    record {
      header = header_of (Some (lower media)) None (Some (codes "utf-8")) None None None (Some (codes "base64"));
      is = header_is (pre ++ fs) ct [] (Some (codes " base64")) None (Some (lower media)) None (Some (codes "utf-8")) None None None None (Some (codes "base64")) vs
          (type_charset short media m.type m.subtype (codes "utf-8") m.is (token_text (codes "utf-8") refl)) no_disposition (OfType None None None refl refl) refl base64_said;
      says = record {
        media = ap (λ (u : List ℕ). Some u) m.low;
        single = m.single;
        charset = text_charset (is_text media) (codes "utf-8") m.text;
        disposition = refl;
        name = refl;
        cid = refl;
        encoding = refl;
      };
    }

-- ---- what is attached

id_value : Option (List ℕ) → Option (List ℕ)
id_value None = None
id_value (Some cid) = Some (field_value (field (codes "Content-ID") (bracketed cid ∷ [])))

attachment_values : (v : List ℕ) (inline : Bool) (name cid : Option (List ℕ))
    → HaveValues (type_field v ∷ base64_field ∷ disposition_field inline name ∷ id_fields cid) (gap (short_of (codes "Content-Type") v) ++ v) (field_value (disposition_field inline name)) (Some (codes " base64"))
    (id_value cid)
unfolding disposition_field id_value
attachment_values v inline name None = record {
  type = ap (λ (u : List ℕ). Some u) (one_value (codes "Content-Type") v);
  disposition = refl;
  encoding = ap (λ (u : List ℕ). Some u) base64_raw;
  id = refl;
  language = refl;
  location = refl;
}
attachment_values v inline name (Some cid) = record {
  type = ap (λ (u : List ℕ). Some u) (one_value (codes "Content-Type") v);
  disposition = refl;
  encoding = ap (λ (u : List ℕ). Some u) base64_raw;
  id = refl;
  language = refl;
  location = refl;
}

type_said : (short : Bool) (media : List ℕ) (charset : Option (List ℕ)) (m : IsLeafMedia media) → is_token_or_none charset ≡ true
    → IsTypeOf (gap short ++ (media ++ charset_parameter charset)) (Some (lower media)) None charset
type_said short media None m e =
    subst (λ (u : List ℕ). IsTypeOf (gap short ++ u) (Some (lower media)) None None) (sym (append-nil media))
    (type_alone short media m.type m.subtype m.is)
type_said short media (Some charset) m e = type_charset short media m.type m.subtype charset m.is (token_text charset e)

file_said : (extended : Option (List ℕ)) → IsFileName extended None None extended
file_said None = OfType None None None refl refl
file_said (Some name) = Extended name None None

disposition_said : (inline : Bool) (name : Option (List ℕ)) → is_line_or_none name ≡ true → IsDispositionOf (field_value (disposition_field inline name)) (Some (disposition inline)) (shown_name name)
unfolding disposition_field laid
disposition_said inline None e =
    let short = short_of (codes "Content-Disposition") (disposition inline) in
    subst (λ (u : List ℕ). IsDispositionOf (gap short ++ u) (Some (disposition inline)) None) (sym (append-nil (disposition inline))) (disposition_alone short inline)
disposition_said inline (Some name) e =
    let line = begun (codes "Content-Disposition") in
    let p = plain_piece (disposition inline ++ 59 ∷ []) in
    let q = plain_piece (file_name name) in
    let short = is_short (line_with line p) in
    let last = is_short (line_with (next_line line p) q) in
    let whole : gap short ++ ((disposition inline ++ 59 ∷ []) ++ (gap last ++ (file_name name ++ []))) ≡ named_value short last inline name =
    ap (λ (u : List ℕ). gap short ++ u) (append_assoc (disposition inline) (59 ∷ []) (gap last ++ (file_name name ++ [])) ∙ ap (λ (u : List ℕ). disposition inline ++ 59 ∷ (gap last ++ u)) (append-nil (file_name name))) in
    subst (λ (u : List ℕ). IsDispositionOf u (Some (disposition inline)) (shown_name (Some name))) (sym whole) (disposition_named short last inline name e)

id_said : (cid : Option (List ℕ)) → is_identifier_or_none cid ≡ true → IsIdOf (id_value cid) cid
unfolding id_value laid
id_said None e = refl
id_said (Some cid) e =
    let short = short_of (codes "Content-ID") (bracketed cid) in
    subst (λ (u : List ℕ). Rattle.mime_fields.specs.ContentIds.IsContentId (gap short ++ u) (Some cid)) (sym (append-nil (bracketed cid))) (id_is_read short cid e)

pub attachment_says : (a : Attachment) → SayLeaf (attachment_leaf a).fields (given_attachment a)
unfolding attachment_leaf
attachment_says a =
    let v = a.media ++ charset_parameter a.charset in
    let fs = type_field v ∷ base64_field ∷ disposition_field a.inline a.name ∷ id_fields a.cid in
    let short = short_of (codes "Content-Type") v in
    let ct = gap short ++ v in
    let cd = field_value (disposition_field a.inline a.name) in
    let m = leaf_media_is a.media a.media_is in
    let kind = Some (disposition a.inline) in
    let charset = a.charset in
    record {
      header = header_of (Some (lower a.media)) None charset kind (shown_name a.name) a.cid (Some (codes "base64"));
      is = header_is fs ct cd (Some (codes " base64")) (id_value a.cid) (Some (lower a.media)) None charset kind (shown_name a.name) (shown_name a.name) a.cid (Some (codes "base64"))
          (attachment_values v a.inline a.name a.cid) (type_said short a.media a.charset m a.charset_is) (disposition_said a.inline a.name a.name_is) (file_said (shown_name a.name)) (id_said a.cid a.cid_is)
          base64_said;
      says = record { media = refl; single = m.single; charset = refl; disposition = refl; name = refl; cid = refl; encoding = refl };
    }

-- ---- multiparts

multi_values : (v : List ℕ) → HaveValues (type_field v ∷ []) (gap (short_of (codes "Content-Type") v) ++ v) [] None None
multi_values v = record { type = ap (λ (u : List ℕ). Some u) (one_value (codes "Content-Type") v); disposition = refl; encoding = refl; id = refl; language = refl; location = refl }

multi_says : (pre : List Field) (media t s : List ℕ) (c : ℕ) (y : List ℕ) → AreForeign pre → IsMediaText media t s → lower media ≡ media → is_multipart media ≡ true → is_digest media ≡ false
    → IsTokenText (c ∷ y) → SayMulti (pre ++ type_field (media ++ codes "; boundary=" ++ c ∷ y) ∷ []) media c y
multi_says pre media t s c y f m low multi digest b =
    let v = media ++ codes "; boundary=" ++ c ∷ y in
    let fs = type_field v ∷ [] in
    let short = short_of (codes "Content-Type") v in
    let ct = boundary_value short media (c ∷ y) in
    let same : gap short ++ v ≡ ct = ap (λ (u : List ℕ). gap short ++ u) (append_assoc media (codes "; boundary=") (c ∷ y)) in
    let vs = behind pre fs (gap short ++ v) [] None None f (multi_values v) in
    record {
      header = header_of (Some (lower media)) (Some (c ∷ y)) None None None None None;
      is = header_is (pre ++ fs) (gap short ++ v) [] None None (Some (lower media)) (Some (c ∷ y)) None None None None None None vs
          (subst (λ (u : List ℕ). IsTypeOf u (Some (lower media)) (Some (c ∷ y)) None) (sym same) (type_boundary short media t s (c ∷ y) m b)) no_disposition
          (OfType None None None refl refl) refl refl;
      says = record { media_is = ap (λ (u : List ℕ). Some u) low; multi = multi; boundary = refl; no_digest = digest };
    }

pub mixed_says : (pre : List Field) → AreForeign pre → SayMulti (pre ++ type_field (codes "multipart/mixed; boundary=_a") ∷ []) (codes "multipart/mixed") 95 (97 ∷ [])
unfolding is_multipart is_digest front
mixed_says pre f =
    multi_says pre (codes "multipart/mixed") (codes "multipart") (codes "mixed") 95 (97 ∷ []) f
    (record { whole = refl; is_type = token_text (codes "multipart") refl; is_subtype = token_text (codes "mixed") refl }) refl refl refl (token_text (95 ∷ 97 ∷ []) refl)

pub alternative_says : (pre : List Field) → AreForeign pre → SayMulti (pre ++ type_field (codes "multipart/alternative; boundary=_b") ∷ []) (codes "multipart/alternative") 95 (98 ∷ [])
unfolding is_multipart is_digest front
alternative_says pre f =
    multi_says pre (codes "multipart/alternative") (codes "multipart") (codes "alternative") 95 (98 ∷ []) f
    (record { whole = refl; is_type = token_text (codes "multipart") refl; is_subtype = token_text (codes "alternative") refl }) refl refl refl (token_text (95 ∷ 98 ∷ []) refl)
