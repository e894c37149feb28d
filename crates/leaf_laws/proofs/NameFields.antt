-- What a written Content-Disposition says: its kind, and the name of a file behind it (RFC 2183, RFC 8187 section 3.2).
use Rattle.std.proofs.Common.{◌≡◌, ◌≢◌, ℕ, ◌/◌, ◌%◌, ◌<◌, Bool, true, false, not, ◌&&◌, ◌||◌, ◌==◌, List, [], ◌∷◌, ◌++◌, codes, IsUtf8, All, refl, sym, ap, ◌∙◌, subst, arith, append_assoc, cond, Option, Some, None}
use Rattle.std.specs.Char.{is_ascii}
use Rattle.std.specs.Option.{option_and_then}
use Rattle.std.specs.Fmt.{digit_glyph}
use Rattle.std.specs.List.{flat_map, list_any}
use Rattle.std.specs.Str.{is_utf8}
use Rattle.std.proofs.lemmas.Bool.{and_parts, cond-false, ltb-true}
use Rattle.std.proofs.lemmas.Str.{IsUtf8-from_is_utf8, utf8_lossy-IsUtf8}
use Rattle.std.proofs.lemmas.List.Elements.{All-nil, All-cons}
use Rattle.base64.proofs.Tables.{all_below_at}
use Rattle.percent_encoding.specs.AsciiSet.{contains, should_percent_encode}
use Rattle.percent_encoding.specs.Percent.{percent_encode, percent_encode_byte, percent_decode, encode_byte}
use Rattle.percent_encoding.specs.declared.ascii_set.TheConstants.{NON_ALPHANUMERIC}
use Rattle.percent_encoding.proofs.PercentLemmas.{IsByte, round_trip}
use Rattle.text_words.specs.Cuts.{Each, IsRun, front, back}
use Rattle.text_words.specs.LineEnds.{begins_with_lf}
use Rattle.text_words.specs.Octets.{is_white}
use Rattle.text_words.proofs.CutLemmas.{each_append, list_all_each}
use Rattle.header_words.specs.Charsets.{text_in}
use Rattle.header_words.specs.declared.charset.Charset.TheVariants as charset
use Rattle.header_words.specs.EncodedWords.{is_control}
use Rattle.header_words.specs.OneLine.{with_ends_alone, line_octet, one_line}
use Rattle.header_tokens.specs.declared.token.Alphabet.TheVariants as alphabet
use Rattle.header_tokens.specs.Tokens.{is_letter}
use Rattle.mail_header.specs.WhiteEnd.{some_text}
use Rattle.mail_drafts.specs.Lines.{is_line}
use Rattle.message_lines.specs.Folding.{gap}
use Rattle.message_laws.specs.SafeTexts.{is_line_octet, is_octet}
use Rattle.message_laws.proofs.Lines.{line_printed}
use Rattle.message_laws.proofs.Octets.{text_octets}
use Rattle.message_laws.proofs.Tokens.{atom_token}
use Rattle.message_texts.specs.Parts.{disposition, file_name}
use Rattle.mime_fields.specs.Dispositions.{leading_token, HasKind}
use Rattle.mime_fields.specs.ExtendedValues.{extended_text, extended_name}
use Rattle.mime_fields.specs.Parameters.{HasParameter}
use Rattle.address_laws.specs.MailboxReading.{shown_name}
use Rattle.leaf_laws.proofs.MimeValues.{is_plain_octet, letters_plain, gap_plain, parameter_text, parameter_plain, parameter_is, no_parameter, IsWithParameter, its_parameter, no_other, token_lexemes, no_lexemes, front_alone, front_before}
use Rattle.leaf_laws.proofs.TypeFields.{IsTokenText, token_text, by_table}

-- ---- the name of a file

-- an octet that needs no escape is a letter of MIME
kept_letter : (c : ℕ) → c < 128 → should_percent_encode NON_ALPHANUMERIC c ≡ false → is_letter alphabet.Mime c ≡ true
unfolding should_percent_encode
kept_letter c lt e = by_table (λ (k : ℕ). not (should_percent_encode NON_ALPHANUMERIC k)) (is_letter alphabet.Mime) c refl lt (ap not e)

kept_below : (c : ℕ) → should_percent_encode NON_ALPHANUMERIC c ≡ false → c < 128
unfolding should_percent_encode
kept_below c e = by (is_ascii c) refl e
  where
    by : (b : Bool) → is_ascii c ≡ b → (not b || contains NON_ALPHANUMERIC c) ≡ false → c < 128
    by true f g = ltb-true c 128 f
    by false f g = absurd cc

escape_letters : (c : ℕ) → Each (is_letter alphabet.Mime) (percent_encode_byte c)
unfolding percent_encode_byte
escape_letters c = (refl, (glyph (c / 16 % 16) (omega arith), (glyph (c % 16) (omega arith), tt)))
  where
    glyph : (n : ℕ) → n < 16 → is_letter alphabet.Mime (digit_glyph true n) ≡ true
    glyph n lt = all_below_at (λ (k : ℕ). is_letter alphabet.Mime (digit_glyph true k)) 16 n refl lt

octet_letters : (c : ℕ) → Each (is_letter alphabet.Mime) (encode_byte NON_ALPHANUMERIC c)
octet_letters c = by (should_percent_encode NON_ALPHANUMERIC c) refl
  where
    by : (b : Bool) → should_percent_encode NON_ALPHANUMERIC c ≡ b → Each (is_letter alphabet.Mime) (cond b (percent_encode_byte c) (c ∷ []))
    by true e = escape_letters c
    by false e = (kept_letter c (kept_below c e) e, tt)

escaped_letters : (t : List ℕ) → Each (is_letter alphabet.Mime) (percent_encode NON_ALPHANUMERIC t)
unfolding percent_encode
escaped_letters [] = tt
escaped_letters (c ∷ t) = each_append (is_letter alphabet.Mime) (encode_byte NON_ALPHANUMERIC c) (flat_map (encode_byte NON_ALPHANUMERIC) t) (octet_letters c) (escaped_letters t)

abbrev pub extended_value : List ℕ → List ℕ
extended_value name = codes "utf-8''" ++ percent_encode NON_ALPHANUMERIC name

value_run : (name : List ℕ) → IsRun (is_letter alphabet.Mime) (extended_value name)
value_run name = (
  each_append (is_letter alphabet.Mime) (codes "utf-8''") (percent_encode NON_ALPHANUMERIC name) (list_all_each (is_letter alphabet.Mime) (codes "utf-8''") refl) (escaped_letters name),
  λ n. absurd cc,
)

name_run : IsRun (is_letter alphabet.Mime) (codes "filename*")
name_run = (list_all_each (is_letter alphabet.Mime) (codes "filename*") refl, λ n. absurd cc)

-- ---- what it reads as

all_bytes : (t : List ℕ) → Each is_octet t → All IsByte t
all_bytes [] e = All-nil IsByte
all_bytes (c ∷ t) e = All-cons IsByte c t (ltb-true c 256 e.0) (all_bytes t e.1)

has_percent : contains NON_ALPHANUMERIC 37 ≡ true
has_percent = refl

text_back : (name : List ℕ) → IsUtf8 name → extended_text (extended_value name) ≡ Some name
unfolding front back
text_back name u =
    ap (λ (t : List ℕ). Some (text_in charset.Utf8 t)) (round_trip NON_ALPHANUMERIC name has_percent (all_bytes name (text_octets name u))) ∙ ap (λ (t : List ℕ). Some t) (utf8_lossy-IsUtf8 name u)

line_facts : (c : ℕ) → is_line_octet c ≡ true → ((c == 10) ≡ false) × ((c == 9) ≡ false) × (is_control c ≡ false)
line_facts c e = (grind arith, grind arith, grind arith)

no_lf_first : (t : List ℕ) → Each is_line_octet t → begins_with_lf t ≡ false
no_lf_first [] e = refl
no_lf_first (c ∷ t) e = (line_facts c e.0).0

and_false : (b : Bool) → (b && false) ≡ false
and_false true = refl
and_false false = refl

ends_alone : (t : List ℕ) → Each is_line_octet t → with_ends_alone t ≡ t
ends_alone [] e = refl
ends_alone (c ∷ t) e =
    let f = line_facts c e.0 in
    ap (λ (u : List ℕ). Rattle.header_words.specs.OneLine.with_octet c u) (ends_alone t e.1)
    ∙ cond-false (c == 10) (10 ∷ back is_white t) (cond (is_white c && begins_with_lf t) t (c ∷ t)) f.0
    ∙ cond-false (is_white c && begins_with_lf t) t (c ∷ t) (ap (λ (q : Bool). is_white c && q) (no_lf_first t e.1) ∙ and_false (is_white c))

octet_kept : (c : ℕ) → is_line_octet c ≡ true → line_octet c ≡ c ∷ []
octet_kept c e = let f = line_facts c e in by (c == 10) (c == 9) (is_control c) f.0 f.1 f.2
  where
    by : (p q r : Bool) → p ≡ false → q ≡ false → r ≡ false → cond (p || q) (32 ∷ []) (cond r [] (c ∷ [])) ≡ c ∷ []
    by true q r f g h = absurd cc
    by false true r f g h = absurd cc
    by false false true f g h = absurd cc
    by false false false f g h = refl

octets_kept : (t : List ℕ) → Each is_line_octet t → flat_map line_octet t ≡ t
octets_kept [] e = refl
octets_kept (c ∷ t) e = ap (λ (u : List ℕ). u ++ flat_map line_octet t) (octet_kept c e.0) ∙ ap (λ (u : List ℕ). c ∷ u) (octets_kept t e.1)

line_same : (t : List ℕ) → Each is_line_octet t → one_line t ≡ t
line_same t e = ap (flat_map line_octet) (ends_alone t e) ∙ octets_kept t e

shown_text : (name : List ℕ) → some_text name ≡ shown_name (Some name)
shown_text [] = refl
shown_text (c ∷ name) = refl

pub name_back : (name : List ℕ) → is_line name ≡ true → extended_name (extended_value name) ≡ shown_name (Some name)
name_back name l =
    let u = IsUtf8-from_is_utf8 name (and_parts (is_utf8 name) (not (list_any is_control name)) l).0 in
    ap (option_and_then (λ (text : List ℕ). some_text (one_line text))) (text_back name u) ∙ ap some_text (line_same name (line_printed name l)) ∙ shown_text name

-- ---- dispositions

kind_token : (inline : Bool) → IsTokenText (disposition inline)
kind_token true = token_text (codes "inline") refl
kind_token false = token_text (codes "attachment") refl

kind_said : (inline : Bool) → Some (disposition inline) ≡ leading_token (atom_token (disposition inline) ∷ [])
kind_said true = refl
kind_said false = refl

kind_plain : (short inline : Bool) → Each is_plain_octet (gap short ++ disposition inline)
kind_plain short inline = each_append is_plain_octet (gap short) (disposition inline) (gap_plain short) (letters_plain (disposition inline) (kind_token inline).run.0)

-- what the octets of a Content-Disposition say, which has no other name of a file
pub record IsDispositionOf (t : List ℕ) (kind extended : Option (List ℕ)) : Type 0 where
  pub has_kind : HasKind t kind
  pub extended_octets : Option (List ℕ)
  pub has_extended : HasParameter (codes "filename*") t extended_octets
  pub extended_is : extended ≡ option_and_then extended_name extended_octets
  pub no_file : HasParameter (codes "filename") t None

pub disposition_alone : (short inline : Bool) → IsDispositionOf (gap short ++ disposition inline) (Some (disposition inline)) None
disposition_alone short inline =
    let v = gap short ++ disposition inline in
    let plain = kind_plain short inline in
    record {
      has_kind = (atom_token (disposition inline) ∷ [], front_alone (atom_token (disposition inline) ∷ []) v plain (token_lexemes short (disposition inline) (kind_token inline).run), kind_said inline);
      extended_octets = None;
      has_extended = no_parameter (codes "filename*") v plain;
      extended_is = refl;
      no_file = no_parameter (codes "filename") v plain;
    }

abbrev pub named_value : Bool → Bool → Bool → List ℕ → List ℕ
named_value short last inline name = gap short ++ (disposition inline ++ 59 ∷ parameter_text last (codes "filename*") (extended_value name))

pub disposition_named : (short last inline : Bool) (name : List ℕ) → is_line name ≡ true
    → IsDispositionOf (named_value short last inline name) (Some (disposition inline)) (shown_name (Some name))
disposition_named short last inline name l =
    let n = codes "filename*" in
    let x = extended_value name in
    let v = named_value short last inline name in
    let front = gap short ++ disposition inline in
    let second = parameter_text last n x in
    let w : IsWithParameter front second n x v = record {
      whole = sym (append_assoc (gap short) (disposition inline) (59 ∷ second));
      plain = kind_plain short inline;
      second_plain = parameter_plain last n x name_run.0 (value_run name).0;
      is = parameter_is last n x name_run (value_run name);
    } in
    record {
      has_kind = (atom_token (disposition inline) ∷ [], front_before front second n x v (atom_token (disposition inline) ∷ []) w (token_lexemes short (disposition inline) (kind_token inline).run), kind_said inline);
      extended_octets = Some x;
      has_extended = its_parameter front second n x v (codes "filename*") w refl;
      extended_is = sym (name_back name l);
      no_file = no_other front second n x v (codes "filename") w refl;
    }

-- without the field there is none
pub no_disposition : IsDispositionOf [] None None
no_disposition = record {
  has_kind = ([], front_alone [] [] tt no_lexemes, refl);
  extended_octets = None;
  has_extended = no_parameter (codes "filename*") [] tt;
  extended_is = refl;
  no_file = no_parameter (codes "filename") [] tt;
}
