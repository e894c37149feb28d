-- What follows a text in another.
use Rattle.std.proofs.Common.{◌≡◌, ℕ, Bool, true, false, List, [], ◌∷◌, Some, None, length, take, drop, bytes_eq, refl, sym, ap, ◌∙◌, eqb-true, eq-eqb, ◌==◌, if◌then◌else◌}
use Rattle.std.specs.Prelude.{◌&&◌}
use Rattle.std.proofs.lemmas.Bool.{false_from_ne_true, false≢true}
use Rattle.honest_store.specs.FolderChanges.{text_after}

turned : (c d : ℕ) → (c == d) ≡ (d == c)
turned c d = by (c == d) refl
  where
    by : (b : Bool) → (c == d) ≡ b → b ≡ (d == c)
    by true e = sym (eq-eqb d c (sym (eqb-true c d e)))
    by false e = sym (false_from_ne_true (d == c) (λ same. false≢true (sym e ∙ eq-eqb c d (sym (eqb-true d c same)))))

-- it is what `strip_prefix` gives
pub text_after_is : (front text : List ℕ) → text_after front text ≡ (if bytes_eq (take (length front) text) front then Some (drop (length front) text) else None)
text_after_is [] text = refl
text_after_is (c ∷ front) [] = refl
text_after_is (c ∷ front) (d ∷ text) = by (c == d) (turned c d) (text_after_is front text)
  where
    by : (b : Bool) → b ≡ (d == c) → text_after front text ≡ (if bytes_eq (take (length front) text) front then Some (drop (length front) text) else None)
        → (if b then text_after front text else None) ≡ (if (d == c) && bytes_eq (take (length front) text) front then Some (drop (length front) text) else None)
    by true e later = later ∙ ap (λ (x : Bool). if x && bytes_eq (take (length front) text) front then Some (drop (length front) text) else None) e
    by false e later = ap (λ (x : Bool). if x && bytes_eq (take (length front) text) front then Some (drop (length front) text) else None) e
