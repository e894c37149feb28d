-- Octets in "Q" are read as they are spelled.
use Rattle.std.proofs.Common.{◌≡◌, ◌≢◌, ℕ, Bool, true, false, List, [], ◌∷◌, ◌++◌, length, cond, refl, sym, ap, ◌∙◌, subst, Option, Some, None, eqb, eqb-true}
use Rattle.std.proofs.lemmas.Bool.{cond-false, eqb-false, ne_eqb}
use Rattle.text_words.specs.Octets.{hex_value}
use Rattle.text_words.specs.Sequence.{UnitAt}
use Rattle.text_words.proofs.SequenceLemmas.{IsReader, same_pair}
use Rattle.header_words.specs.QuotedPrintable.{HexDigits, hex_octet}
use Rattle.header_words.specs.QuotedText.{IsQUnit, Space, Hex, Itself}
use Rattle.header_words.specs.reading.Units.{hex_pair, hex_in, escape_of, q_unit_in}

-- two digits at the front, and the octet that they spell
pub record HexAt (c : ℕ) (t : List ℕ) : Type 0 where
  pub digits : HexDigits
  pub rest : List ℕ
  pub whole : t ≡ digits.high ∷ digits.low ∷ rest
  pub value : c ≡ hex_octet digits

-- where an octet is read, the text begins with the two hexadecimal digits that spell it
pub hex_sound : (c : ℕ) (t : List ℕ) → hex_in t ≡ Some c → HexAt c t
hex_sound c [] e = absurd cc
hex_sound c (h ∷ []) e = absurd cc
hex_sound c (h ∷ l ∷ t) e = by (hex_value h) (hex_value l) refl refl e
  where
    by : (x y : Option ℕ) → hex_value h ≡ x → hex_value l ≡ y → hex_pair x y ≡ Some c → HexAt c (h ∷ l ∷ t)
    by None y p q e = absurd cc
    by (Some a) None p q e = absurd cc
    by (Some a) (Some b) p q e = record {
      digits = record { high = h; low = l; high_value = a; low_value = b; high_is = p; low_is = q };
      rest = t;
      whole = refl;
      value = cc;
    }

-- two hexadecimal digits at the front of a text are read as the octet that they spell
pub hex_complete : (d : HexDigits) (t : List ℕ) → hex_in (d.high ∷ d.low ∷ t) ≡ Some (hex_octet d)
hex_complete d t = ap (λ (x : Option ℕ). hex_pair x (hex_value d.low)) d.high_is ∙ ap (λ (y : Option ℕ). hex_pair (Some d.high_value) y) d.low_is

complete : (v : ℕ) (x s : List ℕ) → IsQUnit v x s → q_unit_in (x ++ s) ≡ Some (v, length x)
unfolding q_unit_in
complete _ _ _ (Space s) = refl
complete _ _ _ (Hex d s) = ap escape_of (hex_complete d s)
complete _ _ _ (Itself c s n m) = cond-false (eqb c 95) _ _ (ne_eqb c 95 n) ∙ cond-false (eqb c 61) _ _ (ne_eqb c 61 m)

some : (v : ℕ) (x s : List ℕ) → IsQUnit v x s → x ≢ []
some _ _ _ (Space s) = λ e. absurd cc
some _ _ _ (Hex d s) = λ e. absurd cc
some _ _ _ (Itself c s n m) = λ e. absurd cc

-- a unit of one octet, or of three
unit_is : (v w m n : ℕ) (t : List ℕ) → ◌≡◌ {A = Option (ℕ × ℕ)} (Some (v, m)) (Some (w, n)) → UnitAt IsQUnit v m t → UnitAt IsQUnit w n t
unit_is v w m n t e u =
    let p = same_pair v w m n e in
    let P : ℕ → Type 0 = λ y. UnitAt IsQUnit y n t in
    let Q : ℕ → Type 0 = λ y. UnitAt IsQUnit v y t in
    subst P p.value (subst Q p.count u)

escape_sound : (v n : ℕ) (t : List ℕ) → escape_of (hex_in t) ≡ Some (v, n) → UnitAt IsQUnit v n (61 ∷ t)
escape_sound v n t e = by (hex_in t) refl e
  where
    by : (o : Option ℕ) → hex_in t ≡ o → escape_of o ≡ Some (v, n) → UnitAt IsQUnit v n (61 ∷ t)
    by None p e = absurd cc
    by (Some c) p e =
        let h = hex_sound c t p in
        let P : ℕ → Type 0 = λ y. IsQUnit y (61 ∷ h.digits.high ∷ h.digits.low ∷ []) h.rest in
        unit_is c v 3 n (61 ∷ t) e
        (record {
          unit = 61 ∷ h.digits.high ∷ h.digits.low ∷ [];
          rest = h.rest;
          whole = ap (λ (u : List ℕ). 61 ∷ u) h.whole;
          is = subst P (sym h.value) (Hex h.digits h.rest);
          counted = refl;
        })

sound : (v n : ℕ) (t : List ℕ) → q_unit_in t ≡ Some (v, n) → UnitAt IsQUnit v n t
unfolding q_unit_in
sound v n [] e = absurd cc
sound v n (c ∷ t) e = by_space (eqb c 95) (eqb c 61) refl refl e
  where
    by_space : (p q : Bool) → eqb c 95 ≡ p → eqb c 61 ≡ q → cond p (Some (32, 1)) (cond q (escape_of (hex_in t)) (Some (c, 1))) ≡ Some (v, n) → UnitAt IsQUnit v n (c ∷ t)
    by_space true q h k e =
        let P : ℕ → Type 0 = λ y. UnitAt IsQUnit v n (y ∷ t) in
        subst P (sym (eqb-true c 95 h)) (unit_is 32 v 1 n (95 ∷ t) e (record { unit = 95 ∷ []; rest = t; whole = refl; is = Space t; counted = refl }))
    by_space false true h k e =
        let P : ℕ → Type 0 = λ y. UnitAt IsQUnit v n (y ∷ t) in
        subst P (sym (eqb-true c 61 k)) (escape_sound v n t e)
    by_space false false h k e = unit_is c v 1 n (c ∷ t) e (record { unit = c ∷ []; rest = t; whole = refl; is = Itself c t (eqb-false c 95 h) (eqb-false c 61 k); counted = refl })

-- reading the unit at the front of a text in "Q" finds the unit that the text begins with, and nothing else
pub q_reader : IsReader IsQUnit q_unit_in
q_reader = record { sound = sound; complete = complete; some = some }
