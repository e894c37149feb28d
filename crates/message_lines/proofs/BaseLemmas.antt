-- Base64 in lines, and how long it is.
use Rattle.std.proofs.Common.{◌≡◌, ℕ, zero, suc, ◌+◌, ◌-◌, ◌*◌, ◌/◌, ◌<◌, ◌≤◌, min, List, [], ◌∷◌, ◌++◌, length, take, drop, replicate}
use Rattle.std.proofs.Common.{refl, sym, ap, ◌∙◌, arith, inl, inr}
use Rattle.std.specs.Int.{div_ceil}
use Rattle.std.proofs.lemmas.List.{append_assoc, append-nil, length-append, length-replicate, length-drop, length-take, take_all, drop_all}
use Rattle.std.proofs.lemmas.Bool.{cases_lt}
use Rattle.base64.specs.GeneralPurpose.{encode_of}
use Rattle.base64.specs.Engines.{standard}
use Rattle.base64.specs.Rfc4648.{encode_symbols, unpadded_len, padding_len}
use Rattle.base64.proofs.RoundTrip.{length-encode_symbols, encode_split}
use Rattle.message_lines.specs.Folding.{crlf}
use Rattle.message_lines.specs.Bodies.{in_lines, lines_of_76, base64_lines}

-- ---- lines

-- a line that is full
line_full : (k : ℕ) (x y : List ℕ) → length x ≡ k → in_lines k (x ++ y) ≡ x ++ in_lines 0 y
unfolding in_lines
line_full zero [] y e = refl
line_full zero (c ∷ x) y e = absurd (omega arith)
line_full (suc k) [] y e = absurd (omega arith)
line_full (suc k) (c ∷ x) y e = ap (λ (u : List ℕ). c ∷ u) (line_full k x y (omega arith))

-- the last line
line_last : (k : ℕ) (x : List ℕ) → length x ≤ k → in_lines k x ≡ x ++ crlf
unfolding in_lines
line_last k [] e = refl
line_last zero (c ∷ x) e = absurd (omega arith)
line_last (suc k) (c ∷ x) e = ap (λ (u : List ℕ). c ∷ u) (line_last k x (omega arith))

next_lines : (y : List ℕ) → in_lines 0 y ≡ crlf ++ lines_of_76 y
unfolding in_lines lines_of_76
next_lines [] = refl
next_lines (c ∷ y) = refl

full_line : (x y : List ℕ) → length x ≡ 76 → lines_of_76 (x ++ y) ≡ (x ++ crlf) ++ lines_of_76 y
unfolding lines_of_76
full_line [] y e = absurd (omega arith)
full_line (c ∷ x) y e =
    ap (λ (u : List ℕ). c ∷ u) (line_full 75 x y (omega arith) ∙ ap (λ (u : List ℕ). x ++ u) (next_lines y))
    ∙ sym (append_assoc (c ∷ x) crlf (lines_of_76 y))

last_line : (x : List ℕ) → 0 < length x → length x ≤ 76 → lines_of_76 x ≡ x ++ crlf
unfolding lines_of_76
last_line [] some e = absurd (omega arith)
last_line (c ∷ x) some e = ap (λ (u : List ℕ). c ∷ u) (line_last 75 x (omega arith))

-- ---- base64

encoded_len : (m : List ℕ) → length (encode_of standard m) ≡ unpadded_len (length m) + padding_len (length m)
encoded_len m =
    omega (
      arith,
      length-append (encode_symbols standard.encode_table m)
          (replicate (padding_len (length m)) 61),
      length-encode_symbols standard.encode_table m,
      length-replicate {A = ℕ} (padding_len (length m)) 61,
    )

-- the base64 of whole groups, and of what follows them
encoded_front : (m : List ℕ) → 57 ≤ length m → encode_of standard m ≡ encode_of standard (take 57 m) ++ encode_of standard (drop 57 m)
encoded_front m le =
    let t = standard.encode_table in
    let pad : ℕ → List ℕ = λ n. replicate (padding_len n) 61 in
    let front : length (take 57 m) ≡ 57 = omega (arith, length-take 57 m) in
    let none : pad (length (take 57 m)) ≡ [] = ap pad front in
    let same : padding_len (length (drop 57 m)) ≡ padding_len (length m) = omega (arith, length-drop 57 m) in
    ap (λ (u : List ℕ). u ++ pad (length m)) (encode_split t m 57 refl le)
    ∙ append_assoc (encode_symbols t (take 57 m)) (encode_symbols t (drop 57 m)) (pad (length m))
    ∙ ap (λ (n : ℕ). encode_symbols t (take 57 m) ++ (encode_symbols t (drop 57 m) ++ replicate n 61)) (sym same)
    ∙ ap (λ (u : List ℕ). u ++ (encode_symbols t (drop 57 m) ++ pad (length (drop 57 m)))) (sym (append-nil (encode_symbols t (take 57 m))))
    ∙ ap (λ (u : List ℕ). (encode_symbols t (take 57 m) ++ u) ++ (encode_symbols t (drop 57 m) ++ pad (length (drop 57 m)))) (sym none)

encoded_len_of : (m : List ℕ) (n : ℕ) → length m ≡ n → length (encode_of standard m) ≡ unpadded_len n + padding_len n
encoded_len_of m n e = encoded_len m ∙ ap (λ (k : ℕ). unpadded_len k + padding_len k) e

-- a line of 57 octets, and what follows it
pub one_line_more : (m : List ℕ) → 57 ≤ length m → base64_lines m ≡ (encode_of standard (take 57 m) ++ crlf) ++ base64_lines (drop 57 m)
unfolding base64_lines
one_line_more m le =
    ap lines_of_76 (encoded_front m le)
    ∙ full_line (encode_of standard (take 57 m)) (encode_of standard (drop 57 m)) (encoded_len_of (take 57 m) 57 (omega (arith, length-take 57 m)))

-- a line that may have fewer
pub one_line_alone : (m : List ℕ) → 0 < length m → length m ≤ 57 → base64_lines m ≡ encode_of standard m ++ crlf
unfolding base64_lines
one_line_alone m some le =
    let n = encoded_len m in
    last_line (encode_of standard m) (omega (arith, n)) (omega (arith, n))

no_lines : base64_lines [] ≡ []
unfolding base64_lines lines_of_76 encode_symbols
no_lines = refl

-- the line of what stands at the front, and the lines of the rest
pub next_line_is : (m : List ℕ) (n : ℕ) → 0 < length m → n ≡ min (length m) 57 → base64_lines m ≡ (encode_of standard (take n m) ++ crlf) ++ base64_lines (drop n m)
next_line_is m n some e = elim (cases_lt (length m) 57) [
  | inl less ↦
      let len : n ≡ length m = omega arith in
      let whole : take n m ≡ m = take_all n m (omega arith) in
      let none : drop n m ≡ [] = drop_all n m (omega arith) in
      one_line_alone m some (omega arith)
      ∙ ap (λ (u : List ℕ). encode_of standard u ++ crlf) (sym whole)
      ∙ sym (append-nil (encode_of standard (take n m) ++ crlf))
      ∙ ap (λ (u : List ℕ). (encode_of standard (take n m) ++ crlf) ++ u) (sym no_lines ∙ ap base64_lines (sym none))
  | inr more ↦
      let len : 57 ≡ n = omega arith in
      one_line_more m more ∙ ap (λ (k : ℕ). (encode_of standard (take k m) ++ crlf) ++ base64_lines (drop k m)) len
]

-- a line of octets is written, and the rest is left
pub line_written : (old new whole m front behind : List ℕ) (n : ℕ) → 0 < length m → n ≡ min (length m) 57 → front ≡ take n m → behind ≡ drop n m
    → new ≡ old ++ (encode_of standard front ++ crlf) → old ++ base64_lines m ≡ whole → new ++ base64_lines behind ≡ whole
line_written old new whole m front behind n some e f g h w =
    ap (λ (u : List ℕ). u ++ base64_lines behind) h ∙ append_assoc old (encode_of standard front ++ crlf) (base64_lines behind)
    ∙ ap (λ (u : List ℕ). old ++ ((encode_of standard u ++ crlf) ++ base64_lines behind)) f
    ∙ ap (λ (u : List ℕ). old ++ ((encode_of standard (take n m) ++ crlf) ++ base64_lines u)) g
    ∙ ap (λ (u : List ℕ). old ++ u) (sym (next_line_is m n some e)) ∙ w

-- nothing is left
pub lines_end : (old whole m : List ℕ) → m ≡ [] → old ++ base64_lines m ≡ whole → old ≡ whole
lines_end old whole m e w = sym (append-nil old) ∙ ap (λ (u : List ℕ). old ++ u) (sym no_lines ∙ ap base64_lines (sym e)) ∙ w

-- ---- lengths

in_lines_len : (room : ℕ) (t : List ℕ) → length (in_lines room t) ≡ length t + 2 + (length t - room + 75) / 76 * 2
unfolding in_lines
in_lines_len room [] = omega arith
in_lines_len zero (c ∷ t) = omega (arith, in_lines_len 75 t)
in_lines_len (suc room) (c ∷ t) = omega (arith, in_lines_len room t)

lines_len : (t : List ℕ) → length (lines_of_76 t) ≡ length t + div_ceil (length t) 76 * 2
unfolding lines_of_76
lines_len [] = refl
lines_len (c ∷ t) = omega (arith, in_lines_len 75 t)

-- base64 has four symbols for three octets, and two octets more a line
pub base64_lines_len : (m : List ℕ) (symbols : ℕ) → symbols ≡ div_ceil (length m) 3 * 4 → length (base64_lines m) ≡ symbols + div_ceil symbols 76 * 2
unfolding base64_lines
base64_lines_len m symbols e =
    let n : length (encode_of standard m) ≡ symbols = omega (arith, encoded_len m) in
    lines_len (encode_of standard m) ∙ ap (λ (k : ℕ). k + div_ceil k 76 * 2) n
