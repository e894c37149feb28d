-- What a written Content-Type says: a media type, and a charset or a boundary behind it (RFC 2045 section 5.1).
use Rattle.std.proofs.Common.{◌≡◌, ◌≢◌, ℕ, ◌<◌, Bool, true, false, not, ◌&&◌, ◌||◌, ◌==◌, List, [], ◌∷◌, ◌++◌, length, map, codes, refl, sym, ap, ◌∙◌, subst, arith, append_assoc, cond, Option, Some, None}
use Rattle.std.specs.Prelude.{nat_le, option_and_then}
use Rattle.std.specs.Char.{to_ascii_lowercase}
use Rattle.std.specs.List.{list_all}
use Rattle.std.specs.Str.{bytes_eq}
use Rattle.std.proofs.lemmas.Bool.{and_parts, and_from, eqb-true, leb-true}
use Rattle.std.proofs.lemmas.List.{map-append}
use Rattle.base64.proofs.Tables.{all_below_at}
use Rattle.text_words.specs.Cuts.{Each, IsRun, Stops, front, back}
use Rattle.text_words.specs.Octets.{is_between, is_same_text}
use Rattle.text_words.proofs.CutLemmas.{each_append, front_back, front_is, back_stops, each_list_all, list_all_each}
use Rattle.header_words.specs.Charsets.{is_ascii}
use Rattle.header_tokens.specs.declared.token.Alphabet.TheVariants as alphabet
use Rattle.header_tokens.specs.Tokens.{is_letter}
use Rattle.mail_header.specs.Lines.{unfolded}
use Rattle.mail_header.specs.RawForms.{raw_form}
use Rattle.mail_header.specs.WhiteEnd.{some_text}
use Rattle.mail_drafts.specs.MediaTypes.{is_tspecial, is_token_octet, is_token, is_no_slash, is_subtype, is_composite, is_leaf_type}
use Rattle.message_lines.specs.Folding.{gap}
use Rattle.message_laws.specs.SafeTexts.{is_line_octet}
use Rattle.message_laws.proofs.DateReading.{clean_text}
use Rattle.message_laws.proofs.RawLines.{raw_is}
use Rattle.message_laws.proofs.Tokens.{mark_token, atom_token}
use Rattle.mime_fields.specs.ContentTypes.{lower, media_in, HasMedia, charset_text}
use Rattle.mime_fields.specs.Parameters.{HasParameter, HasUnfolded}
use Rattle.mime_tree.specs.Heads.{is_multipart}
use Rattle.address_laws.proofs.MailboxTokens.{one_line}
use Rattle.leaf_laws.proofs.MimeValues.{is_plain_octet, letters_plain, gap_plain, parameter_text, parameter_plain, parameter_is, no_parameter, IsWithParameter, its_parameter, no_other, unfolded_none, unfolded_some, media_lexemes, front_alone, front_before}

-- ---- tokens

-- a token: letters of MIME, all of ASCII
pub record IsTokenText (t : List ℕ) : Type 0 where
  pub run : IsRun (is_letter alphabet.Mime) t
  pub ascii : list_all is_ascii t ≡ true
  pub shown : Each (is_between 32 126) t

is_in : (p q : ℕ → Bool) (c : ℕ) → p c ≡ true → (not (p c) || q c) ≡ true → q c ≡ true
is_in p q c e f = by (p c) e f
  where
    by : (b : Bool) → b ≡ true → (not b || q c) ≡ true → q c ≡ true
    by true g h = h
    by false g h = absurd cc

-- a class of octets below 128 is in another by a table
pub by_table : (p q : ℕ → Bool) (c : ℕ) → Rattle.base64.specs.Tables.all_below (λ (k : ℕ). not (p k) || q k) 128 ≡ true → c < 128 → p c ≡ true → q c ≡ true
by_table p q c t lt e = is_in p q c e (all_below_at (λ (k : ℕ). not (p k) || q k) 128 c t lt)

pub each_by : (p q : ℕ → Bool) (t : List ℕ) → ((c : ℕ) → p c ≡ true → q c ≡ true) → Each p t → Each q t
each_by p q [] w e = tt
each_by p q (c ∷ t) w e = (w c e.0, each_by p q t w e.1)

between_below : (c : ℕ) → is_between 33 126 c ≡ true → c < 128
between_below c e = grind arith

token_below : (c : ℕ) → is_token_octet c ≡ true → c < 128
token_below c e = between_below c (and_parts (is_between 33 126 c) (not (is_tspecial c)) e).0

token_letter : (c : ℕ) → is_token_octet c ≡ true → is_letter alphabet.Mime c ≡ true
token_letter c e = by_table is_token_octet (is_letter alphabet.Mime) c refl (token_below c e) e

token_ascii : (c : ℕ) → is_token_octet c ≡ true → is_ascii c ≡ true
token_ascii c e = by_table is_token_octet is_ascii c refl (token_below c e) e

token_shown : (c : ℕ) → is_token_octet c ≡ true → is_between 32 126 c ≡ true
token_shown c e = by_table is_token_octet (is_between 32 126) c refl (token_below c e) e

pub token_text : (t : List ℕ) → is_token t ≡ true → IsTokenText t
token_text t e =
    let p = and_parts (nat_le 1 (length t)) (list_all is_token_octet t) e in
    let octets = list_all_each is_token_octet t p.1 in
    let some = leb-true 1 (length t) p.0 in
    record {
      run = (each_by is_token_octet (is_letter alphabet.Mime) t token_letter octets, λ n. absurd (omega (arith, some, ap length n)));
      ascii = each_list_all is_ascii t (each_by is_token_octet is_ascii t token_ascii octets);
      shown = each_by is_token_octet (is_between 32 126) t token_shown octets;
    }

shown_line : (c : ℕ) → is_between 32 126 c ≡ true → is_line_octet c ≡ true
shown_line c e = grind arith

-- it has no ends of lines
pub token_unfolded : (t : List ℕ) → IsTokenText t → unfolded t ≡ t
token_unfolded t i = one_line t (each_by (is_between 32 126) is_line_octet t shown_line i.shown)

some_kept : (t : List ℕ) → t ≢ [] → some_text t ≡ Some t
some_kept [] n = absurd (n refl)
some_kept (c ∷ t) n = refl

charset_kept : (t : List ℕ) → IsTokenText t → charset_text t ≡ Some t
charset_kept t i = ap some_text (raw_is t (clean_text t i.shown)) ∙ some_kept t i.run.1

-- ---- media types

-- a type and a subtype
pub record IsMediaText (media type subtype : List ℕ) : Type 0 where
  pub whole : media ≡ type ++ 47 ∷ subtype
  pub is_type : IsTokenText type
  pub is_subtype : IsTokenText subtype

media_said : (t s : List ℕ) → IsTokenText t → IsTokenText s → media_in (atom_token t ∷ mark_token 47 ∷ atom_token s ∷ []) ≡ Some (lower (t ++ 47 ∷ s))
media_said t s a b =
    ap (λ (q : Bool). cond (q && true && list_all is_ascii s) (Some (lower t ++ 47 ∷ lower s)) None) a.ascii
    ∙ ap (λ (q : Bool). cond q (Some (lower t ++ 47 ∷ lower s)) None) b.ascii
    ∙ ap (λ (u : List ℕ). Some u) (sym (map-append to_ascii_lowercase t (47 ∷ s)))

media_front : (short : Bool) (media t s : List ℕ) → IsMediaText media t s → Each is_plain_octet (gap short ++ media)
media_front short media t s m =
    subst (λ (u : List ℕ). Each is_plain_octet (gap short ++ u)) (sym m.whole)
    (each_append is_plain_octet (gap short) (t ++ 47 ∷ s) (gap_plain short)
    (each_append is_plain_octet t (47 ∷ s) (letters_plain t m.is_type.run.0) (refl, letters_plain s m.is_subtype.run.0)))

-- what the octets of a Content-Type say, which names no file
pub record IsTypeOf (t : List ℕ) (type boundary charset : Option (List ℕ)) : Type 0 where
  pub media : HasMedia t type
  pub has_boundary : HasUnfolded (codes "boundary") t boundary
  pub charset_octets : Option (List ℕ)
  pub has_charset : HasUnfolded (codes "charset") t charset_octets
  pub charset_is : charset ≡ option_and_then charset_text charset_octets
  pub no_name : HasParameter (codes "name") t None

-- the type alone
pub type_alone : (short : Bool) (media t s : List ℕ) → IsMediaText media t s
    → IsTypeOf (gap short ++ media) (Some (lower media)) None None
type_alone short media t s m =
    let v = gap short ++ media in
    let plain = media_front short media t s m in
    record {
      media = (
        atom_token t ∷ mark_token 47 ∷ atom_token s ∷ [],
        front_alone (atom_token t ∷ mark_token 47 ∷ atom_token s ∷ []) v plain
            (subst (λ (u : List ℕ). Rattle.header_tokens.specs.Lexemes.AreLeadingLexemes alphabet.Mime (atom_token t ∷ mark_token 47 ∷ atom_token s ∷ []) (gap short ++ u)) (sym m.whole)
            (media_lexemes short t s m.is_type.run m.is_subtype.run)),
        ap (λ (u : List ℕ). Some (lower u)) m.whole ∙ sym (media_said t s m.is_type m.is_subtype),
      );
      has_boundary = unfolded_none (codes "boundary") v (no_parameter (codes "boundary") v plain);
      charset_octets = None;
      has_charset = unfolded_none (codes "charset") v (no_parameter (codes "charset") v plain);
      charset_is = refl;
      no_name = no_parameter (codes "name") v plain;
    }

-- a type, and a parameter behind it
type_with : (short : Bool) (media t s name value : List ℕ) → IsMediaText media t s → IsTokenText name → IsTokenText value
    → IsWithParameter (gap short ++ media) (parameter_text true name value) name value (gap short ++ (media ++ 59 ∷ parameter_text true name value))
type_with short media t s name value m n v = record {
  whole = sym (append_assoc (gap short) media (59 ∷ parameter_text true name value));
  plain = media_front short media t s m;
  second_plain = parameter_plain true name value n.run.0 v.run.0;
  is = parameter_is true name value n.run v.run;
}

media_before : (short : Bool) (media t s name value v : List ℕ) → IsMediaText media t s → IsWithParameter (gap short ++ media) (parameter_text true name value) name value v
    → HasMedia v (Some (lower media))
media_before short media t s name value v m w = (
  atom_token t ∷ mark_token 47 ∷ atom_token s ∷ [],
  front_before (gap short ++ media) (parameter_text true name value) name value v (atom_token t ∷ mark_token 47 ∷ atom_token s ∷ []) w
      (subst (λ (u : List ℕ). Rattle.header_tokens.specs.Lexemes.AreLeadingLexemes alphabet.Mime (atom_token t ∷ mark_token 47 ∷ atom_token s ∷ []) (gap short ++ u)) (sym m.whole)
      (media_lexemes short t s m.is_type.run m.is_subtype.run)),
  ap (λ (u : List ℕ). Some (lower u)) m.whole ∙ sym (media_said t s m.is_type m.is_subtype),
)

abbrev pub charset_value : Bool → List ℕ → List ℕ → List ℕ
charset_value short media charset = gap short ++ (media ++ 59 ∷ parameter_text true (codes "charset") charset)

pub type_charset : (short : Bool) (media t s charset : List ℕ) → IsMediaText media t s → IsTokenText charset
    → IsTypeOf (charset_value short media charset) (Some (lower media)) None (Some charset)
type_charset short media t s charset m c =
    let n = codes "charset" in
    let v = charset_value short media charset in
    let w = type_with short media t s n charset m (token_text n refl) c in
    let front = gap short ++ media in
    let second = parameter_text true n charset in
    record {
      media = media_before short media t s n charset v m w;
      has_boundary = unfolded_none (codes "boundary") v (no_other front second n charset v (codes "boundary") w refl);
      charset_octets = Some charset;
      has_charset = unfolded_some (codes "charset") v charset (token_unfolded charset c) (its_parameter front second n charset v (codes "charset") w refl);
      charset_is = sym (charset_kept charset c);
      no_name = no_other front second n charset v (codes "name") w refl;
    }

abbrev pub boundary_value : Bool → List ℕ → List ℕ → List ℕ
boundary_value short media boundary = gap short ++ (media ++ 59 ∷ parameter_text true (codes "boundary") boundary)

pub type_boundary : (short : Bool) (media t s boundary : List ℕ) → IsMediaText media t s → IsTokenText boundary
    → IsTypeOf (boundary_value short media boundary) (Some (lower media)) (Some boundary) None
type_boundary short media t s boundary m b =
    let n = codes "boundary" in
    let v = boundary_value short media boundary in
    let w = type_with short media t s n boundary m (token_text n refl) b in
    let front = gap short ++ media in
    let second = parameter_text true n boundary in
    record {
      media = media_before short media t s n boundary v m w;
      has_boundary = unfolded_some (codes "boundary") v boundary (token_unfolded boundary b) (its_parameter front second n boundary v (codes "boundary") w refl);
      charset_octets = None;
      has_charset = unfolded_none (codes "charset") v (no_other front second n boundary v (codes "charset") w refl);
      charset_is = refl;
      no_name = no_other front second n boundary v (codes "name") w refl;
    }

-- ---- the media type of what is attached

slash_is : (c : ℕ) → is_no_slash c ≡ false → c ≡ 47
slash_is c e = by (c == 47) refl e
  where
    by : (q : Bool) → (c == 47) ≡ q → not q ≡ false → c ≡ 47
    by true f g = eqb-true c 47 f
    by false f g = absurd cc

lower_twice : (c : ℕ) → c < 128 → to_ascii_lowercase (to_ascii_lowercase c) ≡ to_ascii_lowercase c
lower_twice c lt = eqb-true _ _ (all_below_at (λ (k : ℕ). to_ascii_lowercase (to_ascii_lowercase k) == to_ascii_lowercase k) 128 c refl lt)

lower_again : (t : List ℕ) → Each is_token_octet t → lower (lower t) ≡ lower t
lower_again [] e = refl
lower_again (c ∷ t) e = ap (λ (k : ℕ). k ∷ lower (lower t)) (lower_twice c (token_below c e.0)) ∙ ap (λ (u : List ℕ). to_ascii_lowercase c ∷ u) (lower_again t e.1)

lower_no_slash : (c : ℕ) → is_token_octet c ≡ true → is_no_slash (to_ascii_lowercase c) ≡ true
lower_no_slash c e = by_table is_token_octet (λ (k : ℕ). is_no_slash (to_ascii_lowercase k)) c refl (token_below c e) e

lowers_no_slash : (t : List ℕ) → Each is_token_octet t → Each is_no_slash (lower t)
lowers_no_slash [] e = tt
lowers_no_slash (c ∷ t) e = (lower_no_slash c e.0, lowers_no_slash t e.1)

falsehood : (b : Bool) → not b ≡ true → b ≡ false
falsehood true e = absurd cc
falsehood false e = refl

-- a type that a leaf may have
pub record IsLeafMedia (media : List ℕ) : Type 0 where
  pub type : List ℕ
  pub subtype : List ℕ
  pub is : IsMediaText media type subtype
  pub single : is_multipart (lower media) ≡ false

or_first : (a b : Bool) → (a || b) ≡ false → a ≡ false
or_first true b e = absurd cc
or_first false b e = refl

single_is : (media t s : List ℕ) → media ≡ t ++ 47 ∷ s → Each is_token_octet t → is_same_text t (codes "multipart") ≡ false → is_multipart (lower media) ≡ false
unfolding is_multipart
single_is media t s w e n =
    let lowered : lower media ≡ lower t ++ 47 ∷ lower s = ap lower w ∙ map-append to_ascii_lowercase t (47 ∷ s) in
    ap (λ (u : List ℕ). is_same_text (front is_no_slash u) (codes "multipart")) lowered
    ∙ ap (λ (u : List ℕ). is_same_text u (codes "multipart")) (front_is is_no_slash (lower t) (47 ∷ lower s) (lowers_no_slash t e) refl)
    ∙ ap (λ (u : List ℕ). bytes_eq u (lower (codes "multipart"))) (lower_again t e)
    ∙ n

pub leaf_media_is : (media : List ℕ) → is_leaf_type media ≡ true → IsLeafMedia media
leaf_media_is media e =
    let t = front is_no_slash media in
    let p = and_parts (is_token t && is_subtype (back is_no_slash media)) (not (is_composite t)) e in
    let q = and_parts (is_token t) (is_subtype (back is_no_slash media)) p.0 in
    by (back is_no_slash media) (front_back is_no_slash media) (back_stops is_no_slash media) q.0 q.1 (falsehood (is_composite t) p.1)
  where
    by : (b : List ℕ) → media ≡ front is_no_slash media ++ b → Stops is_no_slash b → is_token (front is_no_slash media) ≡ true → is_subtype b ≡ true → is_composite (front is_no_slash media) ≡ false
        → IsLeafMedia media
    by [] w s k l n = absurd cc
    by (c ∷ b) w s k l n =
        let t = front is_no_slash media in
        let whole : media ≡ t ++ 47 ∷ b = w ∙ ap (λ (i : ℕ). t ++ i ∷ b) (slash_is c s) in
        let octets = list_all_each is_token_octet t (and_parts (nat_le 1 (length t)) (list_all is_token_octet t) k).1 in
        record {
          type = t;
          subtype = b;
          is = record { whole = whole; is_type = token_text t k; is_subtype = token_text b l };
          single = single_is media t b whole octets (or_first (is_same_text t (codes "multipart")) (is_same_text t (codes "message")) n);
        }
