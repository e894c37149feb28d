-- Values of MIME fields that are written: a front, and a parameter behind a semicolon where there is one (RFC 2045 section 5.1).
use Rattle.std.proofs.Common.{◌≡◌, ◌≢◌, ℕ, Bool, true, false, not, ◌&&◌, ◌==◌, List, [], ◌∷◌, ◌++◌, refl, sym, ap, ◌∙◌, subst, arith, Option, Some, None}
use Rattle.std.specs.List.{filter}
use Rattle.std.specs.Option.{option_map}
use Rattle.std.proofs.lemmas.List.{append-nil}
use Rattle.text_words.specs.Cuts.{Each, IsRun, Stops}
use Rattle.text_words.specs.Octets.{is_same_text, is_white}
use Rattle.text_words.proofs.CutLemmas.{each_append}
use Rattle.header_tokens.specs.declared.token.Alphabet.{Alphabet}
use Rattle.header_tokens.specs.declared.token.Alphabet.TheVariants as alphabet
use Rattle.header_tokens.specs.Tokens.{is_letter, Spelled, AreTokens, BeginsNone, AreLeading}
use Rattle.header_tokens.specs.Lexemes.{is_lexeme, AreLexemes, AreLeadingLexemes, BeginsWithLexeme}
use Rattle.header_tokens.proofs.OneToken.{token_reader}
use Rattle.mail_header.specs.Lines.{unfolded}
use Rattle.mime_fields.specs.ContentIds.{IsUnclosed}
use Rattle.mime_fields.specs.ContentTypes.{HasFrontLexemes}
use Rattle.mime_fields.specs.Parameters.{atom, IsValue, TokenValue, IsParameter, IsOther, NoPiece, Here, Later, HasParameter, HasUnfolded}
use Rattle.mime_fields.specs.Pieces.{OneOctet, is_semicolon, ArePieceUnits, IsPieceBefore, BeginsWithPiece}
use Rattle.mime_fields.proofs.IdLemmas.{comment_first, quoted_first}
use Rattle.mime_fields.proofs.ParameterLemmas.{name_of, other_named}
use Rattle.message_lines.specs.Folding.{gap}
use Rattle.message_laws.proofs.Tokens.{gap_token, gap_before, mark_token, mark_before, atom_token, atom_before}

-- ---- pieces

-- an octet that opens nothing, and isn't the semicolon
abbrev pub is_plain_octet : ℕ → Bool
is_plain_octet c = not (c == 34) && not (c == 40) && not (c == 59)

unclosed : (c : ℕ) (t : List ℕ) → is_plain_octet c ≡ true → IsUnclosed (c ∷ t)
unclosed c t e = record {
  comment = λ x y i h. (let f = comment_first x y t c i h in let g : is_plain_octet 40 ≡ true = ap is_plain_octet (sym f) ∙ e in absurd cc);
  quoted = λ x y i h. (let f = quoted_first x y t c i h in let g : is_plain_octet 34 ≡ true = ap is_plain_octet (sym f) ∙ e in absurd cc);
}

no_semicolon : (c : ℕ) → is_plain_octet c ≡ true → (c == 59) ≡ false
no_semicolon c e = grind arith

piece_units : (x rest : List ℕ) → Each is_plain_octet x → (us : List (List ℕ)) × ArePieceUnits us rest (x ++ rest)
piece_units [] rest e = ([], refl)
piece_units (c ∷ x) rest e =
    let more = piece_units x rest e.1 in
    ((c ∷ []) ∷ more.0, (no_semicolon c e.0, record { unit = c ∷ []; rest = x ++ rest; whole = refl; is = OneOctet c (x ++ rest) (unclosed c (x ++ rest) e.0); more = more.1 }))

piece_before : (x rest : List ℕ) → Each is_plain_octet x → IsPieceBefore x rest (x ++ rest)
piece_before x rest e = let us = piece_units x rest e in record { units = us.0; are = us.1; whole = refl }

begins_alone : (x : List ℕ) → Each is_plain_octet x → BeginsWithPiece x None x
begins_alone x e = subst (λ (t : List ℕ). IsPieceBefore x [] t) (append-nil x) (piece_before x [] e)

begins_cut : (x more : List ℕ) → Each is_plain_octet x → BeginsWithPiece x (Some more) (x ++ 59 ∷ more)
begins_cut x more e = piece_before x (59 ∷ more) e

-- ---- octets

pub letter_plain : (c : ℕ) → is_letter alphabet.Mime c ≡ true → is_plain_octet c ≡ true
letter_plain c e = grind arith

pub letters_plain : (t : List ℕ) → Each (is_letter alphabet.Mime) t → Each is_plain_octet t
letters_plain [] e = tt
letters_plain (c ∷ t) e = (letter_plain c e.0, letters_plain t e.1)

pub gap_plain : (short : Bool) → Each is_plain_octet (gap short)
gap_plain true = (refl, tt)
gap_plain false = (refl, (refl, (refl, tt)))

gap_white : (short : Bool) → IsRun is_white (gap short)
gap_white true = ((refl, tt), λ n. absurd cc)
gap_white false = ((refl, (refl, (refl, tt))), λ n. absurd cc)

letter_no_white : (c : ℕ) → is_letter alphabet.Mime c ≡ true → is_white c ≡ false
letter_no_white c e = grind arith

run_no_white : (w t : List ℕ) → IsRun (is_letter alphabet.Mime) w → Stops is_white (w ++ t)
run_no_white [] t r = absurd (r.1 refl)
run_no_white (c ∷ w) t r = letter_no_white c r.0.0

-- ---- one parameter

abbrev pub parameter_text : Bool → List ℕ → List ℕ → List ℕ
parameter_text short name value = gap short ++ (name ++ 61 ∷ value)

pub parameter_plain : (short : Bool) (name value : List ℕ) → Each (is_letter alphabet.Mime) name → Each (is_letter alphabet.Mime) value → Each is_plain_octet (parameter_text short name value)
parameter_plain short name value n v =
    each_append is_plain_octet (gap short) (name ++ 61 ∷ value) (gap_plain short) (each_append is_plain_octet name (61 ∷ value) (letters_plain name n) (refl, letters_plain value v))

token_value : (value : List ℕ) → IsRun (is_letter alphabet.Mime) value → IsValue value value
token_value value v = TokenValue value value (record {
  tokens = atom value ∷ [];
  are = record { unit = value; rest = []; whole = sym (append-nil value); is = record { text_is = refl; spelled = v; ends = tt }; more = refl };
  lexemes_are = refl;
})

name_first : (short : Bool) (name value : List ℕ) → IsRun (is_letter alphabet.Mime) name → BeginsWithLexeme alphabet.Mime (atom name) (61 ∷ value) (parameter_text short name value)
name_first short name value n = record {
  gaps = gap_token short ∷ [];
  begins = (
    refl,
    record {
      unit = gap short;
      rest = name ++ 61 ∷ value;
      whole = refl;
      is = record { text_is = refl; spelled = gap_white short; ends = run_no_white name (61 ∷ value) n };
      more = record { unit = name; rest = 61 ∷ value; whole = refl; is = record { text_is = refl; spelled = n; ends = refl }; more = refl };
    },
  );
  is = refl;
}

equals_first : (value : List ℕ) → BeginsWithLexeme alphabet.Mime (mark_token 61) value (61 ∷ value)
equals_first value = record {
  gaps = [];
  begins = record { unit = 61 ∷ []; rest = value; whole = refl; is = record { text_is = refl; spelled = (61, refl, refl); ends = tt }; more = refl };
  is = refl;
}

pub parameter_is : (short : Bool) (name value : List ℕ) → IsRun (is_letter alphabet.Mime) name → IsRun (is_letter alphabet.Mime) value → IsParameter name value (parameter_text short name value)
parameter_is short name value n v = record {
  behind_name = 61 ∷ value;
  equals = mark_token 61;
  raw = value;
  name_is = name_first short name value n;
  equals_is = equals_first value;
  is_equals = refl;
  value_is = token_value value v;
}

-- ---- the parameters of a value

-- a value without a semicolon has none
pub no_parameter : (name x : List ℕ) → Each is_plain_octet x → HasParameter name x None
no_parameter name x e = record { first = x; rest = None; begins = begins_alone x e; is = NoPiece }

-- a front, and a parameter behind it
pub record IsWithParameter (front second name value t : List ℕ) : Type 0 where
  pub whole : t ≡ front ++ 59 ∷ second
  pub plain : Each is_plain_octet front
  pub second_plain : Each is_plain_octet second
  pub is : IsParameter name value second

begins_with : (front second name value t : List ℕ) → IsWithParameter front second name value t → BeginsWithPiece front (Some second) t
begins_with front second name value t w = subst (λ (u : List ℕ). BeginsWithPiece front (Some second) u) (sym w.whole) (begins_cut front second w.plain)

pub its_parameter : (front second name value t asked : List ℕ) → IsWithParameter front second name value t → is_same_text name asked ≡ true → HasParameter asked t (Some value)
its_parameter front second name value t asked w e = record {
  first = front;
  rest = Some second;
  begins = begins_with front second name value t w;
  is = Here second second name value None (begins_alone second w.second_plain) w.is e;
}

pub no_other : (front second name value t asked : List ℕ) → IsWithParameter front second name value t → is_same_text name asked ≡ false → HasParameter asked t None
no_other front second name value t asked w e = record {
  first = front;
  rest = Some second;
  begins = begins_with front second name value t w;
  is = Later second second None None (begins_alone second w.second_plain) (other_named asked second name w.is.raw (name_of name value second w.is) e) NoPiece;
}

pub unfolded_none : (name t : List ℕ) → HasParameter name t None → HasUnfolded name t None
unfolded_none name t h = record { octets = None; has = h; value_is = refl }

pub unfolded_some : (name t value : List ℕ) → unfolded value ≡ value → HasParameter name t (Some value) → HasUnfolded name t (Some value)
unfolded_some name t value e h = record { octets = Some value; has = h; value_is = ap (λ (u : List ℕ). Some u) (sym e) }

-- ---- the lexemes of a front

none_in_nothing : (a : Alphabet) → BeginsNone a []
none_in_nothing a = λ v front rest e i. (token_reader a).some v front rest i (empty front rest e)
  where
    empty : (x y : List ℕ) → [] ≡ x ++ y → x ≡ []
    empty [] y e = refl
    empty (c ∷ x) y e = absurd cc

all_lead : (a : Alphabet) (ts : List Spelled) (t : List ℕ) → AreTokens a ts t → AreLeading a ts [] t
all_lead a [] t h = (h, subst (λ (u : List ℕ). BeginsNone a u) (sym h) (none_in_nothing a))
all_lead a (v ∷ vs) t h = record { unit = h.unit; rest = h.rest; whole = h.whole; is = h.is; more = all_lead a vs h.rest h.more }

lexemes_lead : (ts : List Spelled) (t : List ℕ) → AreTokens alphabet.Mime ts t → AreLeadingLexemes alphabet.Mime (filter is_lexeme ts) t
lexemes_lead ts t h = record { tokens = ts; rest = []; are = all_lead alphabet.Mime ts t h; lexemes_are = refl }

-- one token
pub token_lexemes : (short : Bool) (t : List ℕ) → IsRun (is_letter alphabet.Mime) t → AreLeadingLexemes alphabet.Mime (atom_token t ∷ []) (gap short ++ t)
token_lexemes short t r =
    let x = gap_before alphabet.Mime short (atom_token t ∷ []) (t ++ []) (run_no_white t [] r) (atom_before alphabet.Mime t [] [] r tt refl) in
    lexemes_lead (gap_token short ∷ atom_token t ∷ []) (gap short ++ t) (subst (λ (u : List ℕ). AreTokens alphabet.Mime (gap_token short ∷ atom_token t ∷ []) (gap short ++ u)) (append-nil t) x)

-- two tokens round a slash
pub media_lexemes : (short : Bool) (t s : List ℕ) → IsRun (is_letter alphabet.Mime) t → IsRun (is_letter alphabet.Mime) s
    → AreLeadingLexemes alphabet.Mime (atom_token t ∷ mark_token 47 ∷ atom_token s ∷ []) (gap short ++ (t ++ 47 ∷ s))
media_lexemes short t s r q =
    let ts = gap_token short ∷ atom_token t ∷ mark_token 47 ∷ atom_token s ∷ [] in
    let z = atom_before alphabet.Mime s [] [] q tt refl in
    let m = mark_before alphabet.Mime 47 (atom_token s ∷ []) (s ++ []) refl z in
    let y = atom_before alphabet.Mime t (mark_token 47 ∷ atom_token s ∷ []) (47 ∷ (s ++ [])) r refl m in
    let x = gap_before alphabet.Mime short (atom_token t ∷ mark_token 47 ∷ atom_token s ∷ []) (t ++ 47 ∷ (s ++ [])) (run_no_white t (47 ∷ (s ++ [])) r) y in
    lexemes_lead ts (gap short ++ (t ++ 47 ∷ s)) (subst (λ (u : List ℕ). AreTokens alphabet.Mime ts (gap short ++ (t ++ 47 ∷ u))) (append-nil s) x)

-- those of no octets
pub no_lexemes : AreLeadingLexemes alphabet.Mime [] []
no_lexemes = record { tokens = []; rest = []; are = (refl, none_in_nothing alphabet.Mime); lexemes_are = refl }

pub front_alone : (lexemes : List Spelled) (x : List ℕ) → Each is_plain_octet x → AreLeadingLexemes alphabet.Mime lexemes x → HasFrontLexemes lexemes x
front_alone lexemes x e a = record { first = x; rest = None; begins = begins_alone x e; are = a }

pub front_before : (front second name value t : List ℕ) (lexemes : List Spelled) → IsWithParameter front second name value t → AreLeadingLexemes alphabet.Mime lexemes front
    → HasFrontLexemes lexemes t
front_before front second name value t lexemes w a = record { first = front; rest = Some second; begins = begins_with front second name value t w; are = a }
