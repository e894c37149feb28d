-- What is written in base64 is read back.
use Rattle.std.proofs.Common.{◌≡◌, ◌≢◌, ℕ, zero, suc, ◌+◌, ◌*◌, ◌/◌, ◌%◌, ◌==◌, ◌<◌, nat_lt, Bool, true, ◌&&◌, List, [], ◌∷◌, length, replicate, slice_index, refl, ap, ◌∙◌, arith}
use Rattle.std.proofs.Common.{eqb-true}
use Rattle.std.proofs.lemmas.List.{length-replicate}
use Rattle.std.proofs.lemmas.Bool.{and_parts, ltb-true}
use Rattle.base64.specs.Rfc4648.{encode_symbols, padding_len}
use Rattle.base64.specs.Tables.{all_below}
use Rattle.base64.specs.GeneralPurpose.{encode_of}
use Rattle.base64.specs.Engines.{standard}
use Rattle.base64.proofs.Tables.{all_below_at}
use Rattle.text_words.specs.Cuts.{Each}
use Rattle.header_words.specs.Base64.{is_symbol, symbol_value, spelled_octets, is_equals_sign, IsBase64}

abbrev pub is_octet : ℕ → Bool
is_octet c = nat_lt c 256

-- the symbols of a table stand for their places
abbrev is_symbol_of : List ℕ → ℕ → Bool
is_symbol_of table v = (symbol_value (slice_index table v) == v) && is_symbol (slice_index table v)

record Stands (v c : ℕ) : Type 0 where
  value : symbol_value c ≡ v
  symbol : is_symbol c ≡ true

stands : (table : List ℕ) (v : ℕ) → all_below (is_symbol_of table) 64 ≡ true → v < 64 → Stands v (slice_index table v)
stands table v e lt =
    let p = and_parts (symbol_value (slice_index table v) == v) (is_symbol (slice_index table v)) (all_below_at (is_symbol_of table) 64 v e lt) in
    record { value = eqb-true (symbol_value (slice_index table v)) v p.0; symbol = p.1 }

-- these are the symbols of the octets
pub record AreSymbols (octets symbols : List ℕ) : Type 0 where
  pub alphabet : Each is_symbol symbols
  pub complete : length symbols % 4 ≢ 1
  pub are : octets ≡ spelled_octets symbols

one_octet : (a x y : ℕ) → a < 256 → Stands (a / 4) x → Stands (a % 4 * 16) y → AreSymbols (a ∷ []) (x ∷ y ∷ [])
one_octet a x y la p q =
    let e : a ≡ symbol_value x * 4 + symbol_value y / 16 = omega (arith, p.value, q.value) in
    record { alphabet = (p.symbol, (q.symbol, tt)); complete = λ n. omega arith; are = ap (λ (u : ℕ). u ∷ []) e }

two_octets : (a b x y z : ℕ) → a < 256 → b < 256 → Stands (a / 4) x → Stands (a % 4 * 16 + b / 16) y → Stands (b % 16 * 4) z → AreSymbols (a ∷ b ∷ []) (x ∷ y ∷ z ∷ [])
two_octets a b x y z la lb p q r =
    let e : a ≡ symbol_value x * 4 + symbol_value y / 16 = omega (arith, p.value, q.value) in
    let f : b ≡ symbol_value y % 16 * 16 + symbol_value z / 4 = omega (arith, q.value, r.value) in
    record {
      alphabet = (p.symbol, (q.symbol, (r.symbol, tt)));
      complete = λ n. omega arith;
      are = ap (λ (u : ℕ). u ∷ b ∷ []) e ∙ ap
          (λ (u : ℕ). (symbol_value x * 4 + symbol_value y / 16) ∷ u ∷ []) f;
    }

three_octets : (a b c w x y z : ℕ) (octets symbols : List ℕ) → a < 256 → b < 256 → c < 256
    → Stands (a / 4) w → Stands (a % 4 * 16 + b / 16) x → Stands (b % 16 * 4 + c / 64) y → Stands (c % 64) z
    → AreSymbols octets symbols → AreSymbols (a ∷ b ∷ c ∷ octets) (w ∷ x ∷ y ∷ z ∷ symbols)
three_octets a b c w x y z octets symbols la lb lc p q r s more =
    let e : a ≡ symbol_value w * 4 + symbol_value x / 16 = omega (arith, p.value, q.value) in
    let f : b ≡ symbol_value x % 16 * 16 + symbol_value y / 4 = omega (arith, q.value, r.value) in
    let g : c ≡ symbol_value y % 4 * 64 + symbol_value z = omega (arith, r.value, s.value) in
    record {
      alphabet = (p.symbol, (q.symbol, (r.symbol, (s.symbol, more.alphabet))));
      complete = λ n. more.complete (omega arith);
      are = ap (λ (u : ℕ). u ∷ b ∷ c ∷ octets) e
          ∙ ap (λ (u : ℕ). (symbol_value w * 4 + symbol_value x / 16) ∷ u ∷ c ∷ octets) f
          ∙ ap (λ (u : ℕ). (symbol_value w * 4 + symbol_value x / 16) ∷ (symbol_value x % 16 * 16 + symbol_value y / 4) ∷ u ∷ octets) g
          ∙ ap (λ (u : List ℕ). (symbol_value w * 4 + symbol_value x / 16) ∷ (symbol_value x % 16 * 16 + symbol_value y / 4) ∷
          (symbol_value y % 4 * 64 + symbol_value z) ∷ u) more.are;
    }

are_symbols : (table octets : List ℕ) → all_below (is_symbol_of table) 64 ≡ true → Each is_octet octets → AreSymbols octets (encode_symbols table octets)
unfolding encode_symbols
are_symbols table [] e o = record { alphabet = tt; complete = λ n. omega arith; are = refl }
are_symbols table (a ∷ []) e o =
    let la = ltb-true a 256 o.0 in
    one_octet a _ _ la (stands table _ e (omega arith)) (stands table _ e (omega arith))
are_symbols table (a ∷ b ∷ []) e o =
    let la = ltb-true a 256 o.0 in
    let lb = ltb-true b 256 o.1.0 in
    two_octets a b _ _ _ la lb (stands table _ e (omega arith)) (stands table _ e (omega arith)) (stands table _ e (omega arith))
are_symbols table (a ∷ b ∷ c ∷ octets) e o =
    let la = ltb-true a 256 o.0 in
    let lb = ltb-true b 256 o.1.0 in
    let lc = ltb-true c 256 o.1.1.0 in
    three_octets a b c _ _ _ _ octets (encode_symbols table octets) la lb lc
    (stands table _ e (omega arith)) (stands table _ e (omega arith)) (stands table _ e (omega arith)) (stands table _ e (omega arith))
    (are_symbols table octets e o.1.1.1)

equals_signs : (n : ℕ) → Each is_equals_sign (replicate n 61)
equals_signs zero = tt
equals_signs (suc n) = (refl, equals_signs n)

-- the text in base64 of octets spells them
pub reads_back : (octets : List ℕ) → Each is_octet octets → IsBase64 octets (encode_of standard octets)
reads_back octets o =
    let s = are_symbols standard.encode_table octets refl o in
    let n = padding_len (length octets) in
    record {
      symbols = encode_symbols standard.encode_table octets;
      padding = replicate n 61;
      whole = refl;
      alphabet = s.alphabet;
      equals = equals_signs n;
      few = omega (arith, length-replicate {A = ℕ} n 61);
      complete = s.complete;
      are = s.are;
    }
