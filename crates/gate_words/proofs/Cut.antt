-- A text is cut at its first `=`.
use Rattle.std.proofs.Common.{◌≡◌, ◌≢◌, ℕ, suc, ◌<◌, List, [], ◌∷◌, ◌++◌, length, get_or, ◌==◌, true, false, if◌then◌else◌, Option, Some, None, option_map, Bor, MatchOption, refl}
use Rattle.std.proofs.Common.{sym, ap, ◌∙◌, arith}
use Rattle.std.proofs.lemmas.Bool.{eqb-true, ne_eqb}
use Rattle.std.proofs.lemmas.Option.{none-some, same_Some}
use Rattle.gate_words.specs.reading.Words.{cut}
use Rattle.octets.proofs.Steps.{map-some}

-- the text has no `=`
abbrev pub HasNone : List ℕ → Type 0
HasNone text = (i : ℕ) → i < length text → get_or text i 0 ≢ 61

tail-has-none : (octet : ℕ) (text : List ℕ) → HasNone (octet ∷ text) → HasNone text
tail-has-none octet text none = λ i below. none (suc i) (omega arith)

not-first : (octet : ℕ) (text : List ℕ) → HasNone (octet ∷ text) → (octet == 61) ≡ false
not-first octet text none = ne_eqb octet 61 (none 0 (omega arith))

cut-none : (text : List ℕ) → HasNone text → cut text ≡ None
cut-none [] none = refl
cut-none (octet ∷ text) none = rw (not-first octet text none, cut-none text (tail-has-none octet text none)) refl

cut-some : (front back : List ℕ) → HasNone front → cut (front ++ 61 ∷ back) ≡ Some (front, back)
cut-some [] back none = refl
cut-some (octet ∷ front) back none = rw (not-first octet front none, cut-some front back (tail-has-none octet front none)) refl

-- what `split_once` gives
pub cut-parts : (text : List ℕ) (r : Option (Bor (List ℕ) × Bor (List ℕ))) → MatchOption r (HasNone text) (λ x. (text ≡ x.0.now ++ 61 ∷ x.1.now) × HasNone x.0.now)
    → option_map (λ parts. (parts.0.now, parts.1.now)) r ≡ cut text
cut-parts text None none = sym (cut-none text none)
cut-parts text (Some x) parts = sym (ap cut parts.0 ∙ cut-some x.0.now x.1.now parts.1)

-- the parts make the text
pub cut-is : (text front back : List ℕ) → cut text ≡ Some (front, back) → text ≡ front ++ 61 ∷ back
cut-is [] front back is = absurd (none-some (front, back) is)
cut-is (octet ∷ text) front back is = elim (octet == 61) as (λ t. (octet == 61) ≡ t
    → (if◌then◌else◌ {A = Option (List ℕ × List ℕ)} t (Some ([], text)) (option_map (λ parts. (octet ∷ parts.0, parts.1)) (cut text))) ≡ Some (front, back)
    → octet ∷ text ≡ front ++ 61 ∷ back) [
      | true ↦ λ equal found.
          let octet_is : octet ≡ 61 = eqb-true octet 61 equal in
          let front_is : [] ≡ front = ap (λ (p : List ℕ × List ℕ). p.0) (same_Some ([], text) (front, back) found) in
          let back_is : text ≡ back = ap (λ (p : List ℕ × List ℕ). p.1) (same_Some ([], text) (front, back) found) in
          ap (λ (o : ℕ). o ∷ text) octet_is ∙ ap (λ (t : List ℕ). 61 ∷ t) back_is ∙ ap (λ (f : List ℕ). f ++ 61 ∷ back) front_is
      | false ↦ λ equal found.
          let rest = map-some (λ (parts : List ℕ × List ℕ). let q : List ℕ × List ℕ = (octet ∷ parts.0, parts.1) in q) (cut text) (front, back) found in
          let front_is : octet ∷ rest.0.0 ≡ front = ap (λ (p : List ℕ × List ℕ). p.0) rest.2 in
          let back_is : rest.0.1 ≡ back = ap (λ (p : List ℕ × List ℕ). p.1) rest.2 in
          ap (λ (t : List ℕ). octet ∷ t) (cut-is text rest.0.0 rest.0.1 rest.1) ∙ ap (λ (b : List ℕ). octet ∷ (rest.0.0 ++ 61 ∷ b)) back_is
          ∙ ap (λ (f : List ℕ). f ++ 61 ∷ back) front_is
    ] refl is
