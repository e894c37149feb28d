-- Ends of lines are found as they are spelled.
use Rattle.std.proofs.Common.{◌≡◌, ℕ, suc, Bool, true, false, ◌&&◌, List, [], ◌∷◌, ◌++◌, length, cond, refl, sym, ap, ◌∙◌, eqb, eqb-true}
use Rattle.text_words.specs.LineEnds.{IsLineEnd, Lf, CrLf, begins_with_lf, line_end_len}

-- where a text begins with the end of a line, as many octets are counted at its front as that end has
pub end_len : (e s : List ℕ) → IsLineEnd e → line_end_len (e ++ s) ≡ length e
end_len _ s Lf = refl
end_len _ s CrLf = refl

-- the end of a line has at least one octet
pub end_some : (e : List ℕ) → IsLineEnd e → (k : ℕ) × (length e ≡ suc k)
end_some _ Lf = (0, refl)
end_some _ CrLf = (1, refl)

pub record EndsAt (n : ℕ) (t : List ℕ) : Type 0 where
  pub end : List ℕ
  pub rest : List ℕ
  pub whole : t ≡ end ++ rest
  pub is_end : IsLineEnd end
  pub counted : n ≡ length end

-- an end of a line is found
pub end_found : (t : List ℕ) (n : ℕ) → line_end_len t ≡ suc n → EndsAt (suc n) t
end_found [] n e = absurd cc
end_found (c ∷ t) n e = by_lf (eqb c 10) refl e
  where
    two : (q : Bool) (t : List ℕ) → begins_with_lf t ≡ q → c ≡ 13 → cond q 2 0 ≡ suc n → EndsAt (suc n) (c ∷ t)
    two false t h k e = absurd cc
    two true [] h k e = absurd cc
    two true (d ∷ t) h k e =
        let f : c ∷ d ∷ t ≡ 13 ∷ 10 ∷ t = ap (λ (x : ℕ). x ∷ d ∷ t) k ∙ ap (λ (x : ℕ). 13 ∷ x ∷ t) (eqb-true d 10 h) in
        record { end = 13 ∷ 10 ∷ []; rest = t; whole = f; is_end = CrLf; counted = sym e }

    by_cr : (q : Bool) → eqb c 13 ≡ q → cond (q && begins_with_lf t) 2 0 ≡ suc n → EndsAt (suc n) (c ∷ t)
    by_cr true h e = two (begins_with_lf t) t refl (eqb-true c 13 h) e
    by_cr false h e = absurd cc

    by_lf : (q : Bool) → eqb c 10 ≡ q → cond q 1 (cond (eqb c 13 && begins_with_lf t) 2 0) ≡ suc n → EndsAt (suc n) (c ∷ t)
    by_lf true h e = record { end = 10 ∷ []; rest = t; whole = ap (λ (x : ℕ). x ∷ t) (eqb-true c 10 h); is_end = Lf; counted = sym e }
    by_lf false h e = by_cr (eqb c 13) refl e
