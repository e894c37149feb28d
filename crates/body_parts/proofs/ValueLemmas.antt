-- The first plain text, and values that are fetched.
use Rattle.std.proofs.Common.{add-one, drop, drop-cons, ◌≡◌, ℕ, ◌+◌, ◌<◌, Bool, true, false, ◌||◌, List, [], ◌∷◌, ◌++◌, length, take, get_or, refl, sym, ap, ◌∙◌, subst}
use Rattle.std.proofs.Common.{Option, Some, None}
use Rattle.std.specs.Prelude.{option_to_list, ◌==◌}
use Rattle.std.specs.Bool.{MatchBool}
use Rattle.std.specs.List.{list_any}
use Rattle.std.proofs.lemmas.List.{take_more}
use Rattle.std.proofs.lemmas.List.Folds.{list_any-append}
use Rattle.mime_tree.specs.declared.part.Part.{Part}
use Rattle.mime_tree.specs.Roles.{is_plain_part}
use Rattle.body_parts.specs.BodyValues.{is_listed}
use Rattle.body_parts.specs.Previews.{IsPreviewOf, IsPreview}
use Rattle.body_parts.specs.reading.LeafLists.{parts_at, part_at}

at_here : (ls : List Part) (ns : List ℕ) (i : ℕ) (o : Option Part) → i < length ns → part_at ls (get_or ns i 0) ≡ o
    → parts_at ls (drop i ns) ≡ option_to_list o ++ parts_at ls (drop (i + 1) ns)
at_here ls ns i o lt e =
    let first : drop i ns ≡ get_or ns i 0 ∷ drop (i + 1) ns = rw add-one (drop-cons ns i 0 lt) in
    ap (parts_at ls) first ∙ ap (λ (u : Option Part). option_to_list u ++ parts_at ls (drop (i + 1) ns)) e

-- where the number here has no leaf, the preview is that of the numbers after it
pub no_leaf_here : (b : List ℕ) (ls : List Part) (ns : List ℕ) (i : ℕ) (t : List ℕ) → i < length ns → part_at ls (get_or ns i 0) ≡ None
    → IsPreview b (parts_at ls (drop (i + 1) ns)) t → IsPreview b (parts_at ls (drop i ns)) t
no_leaf_here b ls ns i t lt e h = subst (λ (ps : List Part). IsPreview b ps t) (sym (at_here ls ns i None lt e)) h

-- where the leaf of the number here is no plain text, the preview is that of the numbers after it
pub no_plain_here : (b : List ℕ) (ls : List Part) (ns : List ℕ) (i : ℕ) (p : Part) (t : List ℕ) → i < length ns → part_at ls (get_or ns i 0) ≡ Some p → is_plain_part p ≡ false
    → IsPreview b (parts_at ls (drop (i + 1) ns)) t → IsPreview b (parts_at ls (drop i ns)) t
no_plain_here b ls ns i p t lt e plain h =
    subst (λ (ps : List Part). IsPreview b ps t) (sym (at_here ls ns i (Some p) lt e))
    (subst (λ (q : Bool). MatchBool q (IsPreviewOf b p t) (IsPreview b (parts_at ls (drop (i + 1) ns)) t)) (sym plain) h)

-- where the leaf of the number here is a plain text, the preview is that leaf's
pub plain_here : (b : List ℕ) (ls : List Part) (ns : List ℕ) (i : ℕ) (p : Part) (t : List ℕ) → i < length ns → part_at ls (get_or ns i 0) ≡ Some p → is_plain_part p ≡ true
    → IsPreviewOf b p t → IsPreview b (parts_at ls (drop i ns)) t
plain_here b ls ns i p t lt e plain h =
    subst (λ (ps : List Part). IsPreview b ps t) (sym (at_here ls ns i (Some p) lt e))
    (subst (λ (q : Bool). MatchBool q (IsPreviewOf b p t) (IsPreview b (parts_at ls (drop (i + 1) ns)) t)) (sym plain) h)

-- ---- values that are fetched

or_last : (a x y : Bool) → ((a || x) || y) ≡ (a || (x || (y || false)))
or_last true x y = refl
or_last false true y = refl
or_last false false true = refl
or_last false false false = refl

-- the numbers up to a place, and the one there
pub among_more : (numbers : List ℕ) (i k n : ℕ) (before so_far after : Bool) → i < length numbers → k ≡ get_or numbers i 0 → so_far ≡ (before || is_listed (take i numbers) n)
    → after ≡ (so_far || k == n) → after ≡ (before || is_listed (take (i + 1) numbers) n)
among_more numbers i k n before so_far after lt at h e =
    let x = is_listed (take i numbers) n in
    let here = λ (j : ℕ). j == n in
    let last : is_listed (take (i + 1) numbers) n ≡ (x || (here (get_or numbers i 0) || false)) =
    ap (list_any here) (take_more numbers i 0 lt) ∙ list_any-append here (take i numbers) (get_or numbers i 0 ∷ []) in
    e ∙ ap (λ (b : Bool). b || k == n) h ∙ or_last before x (k == n) ∙ ap (λ (j : ℕ). before || (x || (here j || false))) at ∙ sym (ap (λ (b : Bool). before || b) last)
