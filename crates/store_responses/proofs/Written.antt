-- Items that are written one after another.
use Rattle.std.proofs.Common.{◌≡◌, ℕ, Bool, true, false, List, [], ◌∷◌, ◌++◌, refl, sym, ap, ◌∙◌, append_assoc}
use Rattle.std.specs.Prelude.{◌&&◌}
use Rattle.imap_types.specs.Lines.{spaced}
use Rattle.store_responses.specs.reading.Items.{written, are_none, WritesItems}

spaced_join : (xs ys : List (List ℕ)) → spaced (xs ++ ys) ≡ spaced xs ++ spaced ys
spaced_join [] ys = refl
spaced_join (x ∷ xs) ys = ap (λ (u : List ℕ). 32 ∷ x ++ u) (spaced_join xs ys) ∙ sym (append_assoc (32 ∷ x) (spaced xs) (spaced ys))

written_join : (first : Bool) (xs ys : List (List ℕ)) → written first (xs ++ ys) ≡ written first xs ++ written (first && are_none xs) ys
written_join true [] ys = refl
written_join true (x ∷ xs) ys = ap (λ (u : List ℕ). x ++ u) (spaced_join xs ys) ∙ sym (append_assoc x (spaced xs) (spaced ys))
written_join false xs ys = spaced_join xs ys

none_join : (first : Bool) (xs ys : List (List ℕ)) → (first && are_none (xs ++ ys)) ≡ ((first && are_none xs) && are_none ys)
none_join true [] ys = refl
none_join true (x ∷ xs) ys = refl
none_join false xs ys = refl

-- items, and then items, are all of them
pub writes_join : (a b d : List ℕ) (first n m : Bool) (xs ys : List (List ℕ)) → WritesItems a b first xs n → WritesItems b d n ys m → WritesItems a d first (xs ++ ys) m
writes_join a b d first n m xs ys h g = record {
  text = g.text ∙ ap (λ (u : List ℕ). u ++ written n ys) h.text ∙ append_assoc a (written first xs) (written n ys)
      ∙ ap (λ (u : List ℕ). a ++ u) (ap (λ (k : Bool). written first xs ++ written k ys) h.none_is ∙ sym (written_join first xs ys));
  none_is = g.none_is ∙ ap (λ (k : Bool). k && are_none ys) h.none_is ∙ sym (none_join first xs ys);
}
