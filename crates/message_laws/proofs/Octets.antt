-- Octets of UTF-8, and their base64.
use Rattle.std.proofs.Common.{◌≡◌, ℕ, zero, suc, ◌+◌, ◌/◌, ◌%◌, ◌<◌, ltb, Bool, true, false, not, ◌&&◌, ◌==◌, cond, List, [], ◌∷◌, ◌++◌, codes, IsUtf8, refl, sym, subst, arith, inl, inr}
use Rattle.std.proofs.lemmas.Bool.{and_parts, lt-ltb}
use lib.Utf8.{scalar, scalars, encode, encodes, scalar_cases}
use Rattle.base64.specs.Engines.{standard}
use Rattle.base64.specs.GeneralPurpose.{encode_of}
use Rattle.text_words.specs.Cuts.{Each}
use Rattle.text_words.proofs.CutLemmas.{each_append}
use Rattle.header_words.specs.Base64.{is_symbol, is_equals_sign}
use Rattle.header_words.specs.WordList.{utf8_word}
use Rattle.header_words.proofs.WrittenBase64.{reads_back}
use Rattle.message_lines.specs.Bodies.{in_lines, lines_of_76, base64_lines, with_cr, with_crlf}
use Rattle.message_laws.specs.SafeTexts.{is_line_octet, is_octet, IsLines, NoOctet, InLine, LineEnd}
use Rattle.message_laws.proofs.Lines.{printed, line_end}

-- ---- UTF-8

small : (n : ℕ) → n < 256 → is_octet n ≡ true
small n lt = lt-ltb n 256 lt

char_octets : (c : ℕ) → c < 1114112 → Each is_octet (encode c)
unfolding encode
char_octets c lt = by (ltb c 128) (ltb c 2048) (ltb c 65536) refl refl refl
  where
    by : (p q r : Bool) → ltb c 128 ≡ p → ltb c 2048 ≡ q → ltb c 65536 ≡ r
        → Each is_octet (cond p (c ∷ [])
        (cond q ((192 + c / 64) ∷ (128 + c % 64) ∷ [])
        (cond r ((224 + c / 4096) ∷ (128 + c / 64 % 64) ∷ (128 + c % 64) ∷ []) ((240 + c / 262144) ∷ (128 + c / 4096 % 64) ∷ (128 + c / 64 % 64) ∷ (128 + c % 64) ∷ []))))
    by true q r e f g = (grind arith, tt)
    by false true r e f g = (small _ (grind arith), (small _ (omega arith), tt))
    by false false true e f g = (small _ (grind arith), (small _ (omega arith), (small _ (omega arith), tt)))
    by false false false e f g = (small _ (omega arith), (small _ (omega arith), (small _ (omega arith), (small _ (omega arith), tt))))

scalar_below : (c : ℕ) → scalar c ≡ true → c < 1114112
scalar_below c e = elim (scalar_cases c e) [ inl h ↦ omega (arith, h) | inr h ↦ h.1 ]

chars_octets : (cs : List ℕ) → scalars cs ≡ true → Each is_octet (encodes cs)
chars_octets [] e = tt
chars_octets (c ∷ cs) e =
    let p = and_parts (scalar c) (scalars cs) e in
    each_append is_octet (encode c) (encodes cs) (char_octets c (scalar_below c p.0)) (chars_octets cs p.1)

-- a text in UTF-8 is octets
pub text_octets : (t : List ℕ) → IsUtf8 t → Each is_octet t
text_octets t (cs, u) = subst (λ (x : List ℕ). Each is_octet x) u.1 (chars_octets cs u.0)

-- and so is it with CR LF at the ends of its lines
with_cr_octets : (b : Bool) (t : List ℕ) → Each is_octet t → Each is_octet (with_cr b t)
with_cr_octets b [] e = tt
with_cr_octets b (c ∷ t) e = by ((c == 10) && not b) (with_cr_octets (c == 13) t e.1)
  where
    by : (p : Bool) → Each is_octet (with_cr (c == 13) t) → Each is_octet (cond p (13 ∷ 10 ∷ []) (c ∷ []) ++ with_cr (c == 13) t)
    by true more = (refl, (refl, more))
    by false more = (e.0, more)

pub crlf_octets : (t : List ℕ) → Each is_octet t → Each is_octet (with_crlf t)
unfolding with_crlf
crlf_octets t e = with_cr_octets false t e

-- ---- base64

symbol_printed : (c : ℕ) → is_symbol c ≡ true → is_line_octet c ≡ true
symbol_printed c e = grind arith

symbols_printed : (t : List ℕ) → Each is_symbol t → Each is_line_octet t
symbols_printed [] e = tt
symbols_printed (c ∷ t) e = (symbol_printed c e.0, symbols_printed t e.1)

equals : (c : ℕ) → is_equals_sign c ≡ true → is_line_octet c ≡ true
equals c e = grind arith

equals_printed : (t : List ℕ) → Each is_equals_sign t → Each is_line_octet t
equals_printed [] e = tt
equals_printed (c ∷ t) e = (equals c e.0, equals_printed t e.1)

pub base64_printed : (m : List ℕ) → Each is_octet m → Each is_line_octet (encode_of standard m)
base64_printed m o =
    let r = reads_back m o in
    subst (λ (t : List ℕ). Each is_line_octet t) (sym r.whole) (each_append is_line_octet r.symbols r.padding (symbols_printed r.symbols r.alphabet) (equals_printed r.padding r.equals))

in_lines_safe : (room : ℕ) (t : List ℕ) → Each is_line_octet t → IsLines (in_lines room t)
unfolding in_lines
in_lines_safe room [] e = line_end
in_lines_safe zero (c ∷ t) e = LineEnd (c ∷ in_lines 75 t) (InLine c (in_lines 75 t) e.0 (in_lines_safe 75 t e.1))
in_lines_safe (suc room) (c ∷ t) e = InLine c (in_lines room t) e.0 (in_lines_safe room t e.1)

lines_safe : (t : List ℕ) → Each is_line_octet t → IsLines (lines_of_76 t)
unfolding lines_of_76
lines_safe [] e = NoOctet
lines_safe (c ∷ t) e = InLine c (in_lines 75 t) e.0 (in_lines_safe 75 t e.1)

pub body_safe : (m : List ℕ) → Each is_octet m → IsLines (base64_lines m)
unfolding base64_lines
body_safe m o = lines_safe (encode_of standard m) (base64_printed m o)

-- an encoded word
pub word_printed : (piece : List ℕ) → IsUtf8 piece → Each is_line_octet (utf8_word piece)
unfolding utf8_word
word_printed piece u =
    each_append is_line_octet (codes "=?utf-8?B?") (encode_of standard piece ++ codes "?=") (printed (codes "=?utf-8?B?") refl)
    (each_append is_line_octet (encode_of standard piece) (codes "?=") (base64_printed piece (text_octets piece u)) (printed (codes "?=") refl))
