-- A text that is fed to a hasher piece by piece, in lower case.
use Rattle.std.proofs.Common.{◌≡◌, ℕ, List, [], ◌∷◌, ◌++◌, length, eqb, eqb-true, true, arith, map, refl, sym, ap, ◌∙◌, subst, append_assoc}
use Rattle.std.specs.Char.{to_ascii_lowercase}
use Rattle.std.specs.List.{fold}
use Rattle.std.proofs.lemmas.List.{append-nil, map-append}
use Rattle.std.proofs.lemmas.List.Sums.{fold-append}
use Rattle.std.specs.declared.hash.DefaultHasher.{DefaultHasher}
use Rattle.std.specs.Hash.DefaultHasher.{write, write_byte}

abbrev pub lower : List ℕ → List ℕ
lower t = map to_ascii_lowercase t

-- of the text all before the rest is fed
pub record FedSoFar (old new : DefaultHasher) (text rest : List ℕ) : Type 0 where
  pub done : List ℕ
  pub whole : text ≡ done ++ rest
  pub fed : new ≡ write old (lower done)

-- nothing is
pub none_fed : (hasher : DefaultHasher) (text : List ℕ) → FedSoFar hasher hasher text text
unfolding write
none_fed hasher text = record { done = []; whole = refl; fed = refl }

-- two writes are one of both texts
pub written_on : (hasher : DefaultHasher) (s t : List ℕ) → write (write hasher s) t ≡ write hasher (s ++ t)
unfolding write
written_on hasher s t = sym (fold-append write_byte hasher s t)

-- one piece more
pub piece_fed : (old before after : DefaultHasher) (text rest piece more : List ℕ) → FedSoFar old before text rest → rest ≡ piece ++ more
    → after ≡ write before (lower piece) → FedSoFar old after text more
piece_fed old before after text rest piece more far e feeds = record {
  done = far.done ++ piece;
  whole = far.whole ∙ ap (λ (t : List ℕ). far.done ++ t) e ∙ sym (append_assoc far.done piece more);
  fed = feeds ∙ ap (λ (h : DefaultHasher). write h (lower piece)) far.fed ∙ written_on old (lower far.done) (lower piece)
      ∙ ap (write old) (sym (map-append to_ascii_lowercase far.done piece));
}

-- all is
pub all_fed : (old new : DefaultHasher) (text rest : List ℕ) → FedSoFar old new text rest → rest ≡ [] → new ≡ write old (lower text)
all_fed old new text rest far e =
    far.fed ∙ ap (λ (t : List ℕ). write old (lower t)) (sym (far.whole ∙ ap (λ (t : List ℕ). far.done ++ t) e ∙ append-nil far.done))

-- a text without octets
pub none_more : (t : List ℕ) → eqb (length t) 0 ≡ true → t ≡ []
none_more [] e = refl
none_more (c ∷ t) e = let none : length (c ∷ t) ≡ 0 = eqb-true (length (c ∷ t)) 0 e in absurd (omega (arith, none))
