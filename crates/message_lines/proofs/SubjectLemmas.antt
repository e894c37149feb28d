-- Subjects with spaces for control characters are UTF-8.
use Rattle.std.proofs.Common.{◌≡◌, ℕ, ◌+◌, ◌/◌, ◌%◌, ◌<◌, ◌≤◌, ltb, cond, Bool, true, false, List, [], ◌∷◌, ◌++◌, map, IsUtf8, refl, sym, ap, ◌∙◌, subst, arith, inl, inr}
use lib.Utf8.{scalar, scalars, encode, encodes}
use Rattle.std.proofs.lemmas.Bool.{and_parts, and_from, cases_lt, lt-ltb}
use Rattle.std.proofs.lemmas.List.{map-append}
use Rattle.header_words.specs.EncodedWords.{is_control}
use Rattle.message_lines.specs.declared.folding.Line.{Line}
use Rattle.message_lines.specs.Folding.{plain_piece, laid, next_line, Lays}
use Rattle.message_lines.specs.Words.{AreWordsBehind}
use Rattle.message_lines.specs.Subjects.{shown_octet, shown_subject, is_plain_subject, IsSubject, PlainSubject, EncodedSubject}
use Rattle.message_lines.proofs.LineLemmas.{AddsPiece, lays_one}

high : (b : ℕ) → 128 ≤ b → is_control b ≡ false
high b le = grind arith

stays : (b : ℕ) → 128 ≤ b → shown_octet b ≡ b
stays b le = ap (λ (p : Bool). cond p 32 b) (high b le)

-- a character that isn't ASCII stays
wide : (c : ℕ) → 128 ≤ c → map shown_octet (encode c) ≡ encode c
unfolding encode
wide c le = by (ltb c 128) (ltb c 2048) (ltb c 65536) refl
  where
    by : (p q r : Bool) → ltb c 128 ≡ p
        → map shown_octet (cond p (c ∷ [])
        (cond q ((192 + c / 64) ∷ (128 + c % 64) ∷ [])
        (cond r ((224 + c / 4096) ∷ (128 + c / 64 % 64) ∷ (128 + c % 64) ∷ []) ((240 + c / 262144) ∷ (128 + c / 4096 % 64) ∷ (128 + c / 64 % 64) ∷ (128 + c % 64) ∷ []))))
        ≡ cond p (c ∷ [])
        (cond q ((192 + c / 64) ∷ (128 + c % 64) ∷ [])
        (cond r ((224 + c / 4096) ∷ (128 + c / 64 % 64) ∷ (128 + c % 64) ∷ []) ((240 + c / 262144) ∷ (128 + c / 4096 % 64) ∷ (128 + c / 64 % 64) ∷ (128 + c % 64) ∷ [])))
    by true q r e = ap (λ (b : ℕ). b ∷ []) (stays c le)
    by false true r e = rw (stays (192 + c / 64) (omega arith), stays (128 + c % 64) (omega arith)) refl
    by false false true e = rw (stays (224 + c / 4096) (omega arith), stays (128 + c / 64 % 64) (omega arith), stays (128 + c % 64) (omega arith)) refl
    by false false false e = rw (stays (240 + c / 262144) (omega arith), stays (128 + c / 4096 % 64) (omega arith), stays (128 + c / 64 % 64) (omega arith), stays (128 + c % 64) (omega arith)) refl

-- a character of ASCII is one octet
ascii : (c : ℕ) → c < 128 → encode c ≡ c ∷ []
unfolding encode
ascii c le = ap (λ (p : Bool). cond p (c ∷ []) (cond (ltb c 2048) ((192 + c / 64) ∷ (128 + c % 64) ∷ []) (cond (ltb c 65536) ((224 + c / 4096) ∷ (128 + c / 64 % 64) ∷ (128 + c % 64) ∷ []) ((240 + c / 262144) ∷ (128 + c / 4096 % 64) ∷ (128 + c / 64 % 64) ∷ (128 + c % 64) ∷ [])))) (lt-ltb c 128 le)

small : (c : ℕ) → c < 128 → shown_octet c < 128
small c le = by (is_control c)
  where
    by : (p : Bool) → cond p 32 c < 128
    by true = omega arith
    by false = le

shown_char : (c : ℕ) → map shown_octet (encode c) ≡ encode (shown_octet c)
shown_char c = elim (cases_lt c 128) [
  | inl le ↦ ap (map shown_octet) (ascii c le) ∙ sym (ascii (shown_octet c) (small c le))
  | inr more ↦ wide c more ∙ ap encode (sym (stays c more))
]

shown_scalar : (c : ℕ) → scalar c ≡ true → scalar (shown_octet c) ≡ true
shown_scalar c e = by (is_control c)
  where
    by : (p : Bool) → scalar (cond p 32 c) ≡ true
    by true = refl
    by false = e

shown_chars : (cs : List ℕ) → map shown_octet (encodes cs) ≡ encodes (map shown_octet cs)
shown_chars [] = refl
shown_chars (c ∷ cs) =
    map-append shown_octet (encode c) (encodes cs) ∙ ap (λ (u : List ℕ). u ++ map shown_octet (encodes cs)) (shown_char c)
    ∙ ap (λ (u : List ℕ). encode (shown_octet c) ++ u) (shown_chars cs)

shown_scalars : (cs : List ℕ) → scalars cs ≡ true → scalars (map shown_octet cs) ≡ true
shown_scalars [] e = refl
shown_scalars (c ∷ cs) e =
    let p = and_parts (scalar c) (scalars cs) e in
    and_from (scalar (shown_octet c)) (scalars (map shown_octet cs)) (shown_scalar c p.0) (shown_scalars cs p.1)

-- the subject that is written is UTF-8
pub shown_utf8 : (t : List ℕ) → IsUtf8 t → IsUtf8 (shown_subject t)
shown_utf8 t (cs, u) = (map shown_octet cs, (shown_scalars cs u.0, sym (shown_chars cs) ∙ ap (map shown_octet) u.1))

-- ---- what is written

-- a subject as it stands
pub plain_subject : (line after : Line) (old new subject tested piece : List ℕ) → tested ≡ shown_subject subject → piece ≡ shown_subject subject → is_plain_subject tested ≡ true
    → AddsPiece line (plain_piece piece) old new after → Lays (IsSubject line subject) line old new after
plain_subject line after old new subject tested piece e f p a =
    lays_one (IsSubject line subject) line after old new (plain_piece (shown_subject subject)) (PlainSubject (subst (λ (t : List ℕ). is_plain_subject t ≡ true) e p))
    (a.0 ∙ ap (λ (t : List ℕ). old ++ laid line (plain_piece t ∷ [])) f) (a.1 ∙ ap (λ (t : List ℕ). next_line line (plain_piece t)) f)

-- a subject as encoded words
pub encoded_subject : (line after : Line) (old new subject tested written : List ℕ) → tested ≡ shown_subject subject → written ≡ shown_subject subject
    → is_plain_subject tested ≡ false → Lays (AreWordsBehind line written) line old new after → Lays (IsSubject line subject) line old new after
encoded_subject line after old new subject tested written e f p w = record {
  pieces = w.pieces;
  are = EncodedSubject w.pieces (subst (λ (t : List ℕ). is_plain_subject t ≡ false) e p) (subst (λ (t : List ℕ). AreWordsBehind line t w.pieces) f w.are);
  text_is = w.text_is;
  line_is = w.line_is;
}
