-- A text in base64 is cut after its symbols.
use Rattle.std.proofs.Common.{◌≡◌, ◌≢◌, ℕ, ◌-◌, ◌≤◌, ◌/◌, ◌%◌, min, false, List, [], ◌∷◌, ◌++◌, length, map, refl, sym, ap, ◌∙◌, subst, eqb-true, arith}
use Rattle.std.proofs.lemmas.List.{length-map}
use Rattle.text_words.specs.Cuts.{Each, Stops, front, back}
use Rattle.text_words.proofs.CutLemmas.{front_back, front_each, front_is, back_is}
use Rattle.header_words.specs.Base64.{is_symbol, is_equals_sign, symbol_value, octets_of_groups, spelled_octets, IsBase64}

equals_stop : (p : List ℕ) → Each is_equals_sign p → Stops is_symbol p
equals_stop [] e = tt
equals_stop (c ∷ p) e = let P : ℕ → Type 0 = λ x. is_symbol x ≡ false in subst P (sym (eqb-true c 61 e.0)) refl

-- the symbols of a text in base64 are the symbols at its front, as many as there are
pub symbols_are : (octets t : List ℕ) (b : IsBase64 octets t) → b.symbols ≡ front is_symbol t
symbols_are octets t b = sym (front_is is_symbol b.symbols b.padding b.alphabet (equals_stop b.padding b.equals)) ∙ ap (front is_symbol) (sym b.whole)

-- the padding of a text in base64 is what follows the symbols at its front
pub padding_is : (octets t : List ℕ) (b : IsBase64 octets t) → b.padding ≡ back is_symbol t
padding_is octets t b = sym (back_is is_symbol b.symbols b.padding b.alphabet (equals_stop b.padding b.equals)) ∙ ap (back is_symbol) (sym b.whole)

-- symbols at the front, of a number that isn't 4k + 1, and then up to two "=" are base64 of what the symbols spell
pub is_base64 : (octets t s p : List ℕ) → s ≡ front is_symbol t → p ≡ back is_symbol t → length s % 4 ≢ 1 → length p ≤ 2 → Each is_equals_sign p → octets ≡ spelled_octets s
    → IsBase64 octets t
is_base64 octets t s p es ep n f e a =
    let P : List ℕ → Type 0 = λ u. Each is_symbol u in
    record {
      symbols = s;
      padding = p;
      whole = front_back is_symbol t ∙ ap (λ (u : List ℕ). u ++ back is_symbol t) (sym es) ∙ ap (λ (u : List ℕ). s ++ u)
          (sym ep);
      alphabet = subst P (sym es) (front_each is_symbol t);
      equals = e;
      few = f;
      complete = n;
      are = a;
    }

-- a text spells one list of octets
pub one_base64 : (x y t : List ℕ) → IsBase64 x t → IsBase64 y t → x ≡ y
one_base64 x y t a b = a.are ∙ ap spelled_octets (symbols_are x t a ∙ sym (symbols_are y t b)) ∙ sym b.are

-- ---- how many octets symbols spell

octets_length : (l : List ℕ) → length (octets_of_groups l) ≡ length l - length l / 4 - min (length l % 4) 1
octets_length [] = refl
octets_length (a ∷ []) = refl
octets_length (a ∷ b ∷ []) = refl
octets_length (a ∷ b ∷ c ∷ []) = refl
octets_length (a ∷ b ∷ c ∷ d ∷ t) = omega (arith, octets_length t)

-- n symbols spell n - n / 4 octets, and one fewer where n isn't a multiple of 4
pub spelled_length : (s : List ℕ) (n : ℕ) → length s ≡ n → n - n / 4 - min (n % 4) 1 ≡ length (spelled_octets s)
spelled_length s n e =
    let m : length (map symbol_value s) ≡ n = length-map s symbol_value ∙ e in
    sym (octets_length (map symbol_value s) ∙ ap (λ (k : ℕ). k - k / 4 - min (k % 4) 1) m)
