-- Rows by number, as a map is walked.
use Rattle.std.proofs.Common.{◌≡◌, ℕ, List, [], ◌∷◌, ◌++◌, nat_cmp}
use Rattle.std.proofs.Common.{refl, sym, ap, subst, ◌∙◌, append_assoc, append-nil}
use Rattle.std.specs.Map.{keys_of}
use Rattle.std.specs.List.Sorted.{IsStrictlySortedBy}
use Rattle.served_maps.specs.Past.{served}
use Rattle.query_lists.specs.Ordered.{numbers_of}

-- the rows so far and those that are left are all; and so they are with the next one
pub entries_more : {R V : Type 0} (serve : R → V) (e : ℕ × R) (left before all : List (ℕ × R)) (so_far : List (ℕ × V)) → before ≡ e ∷ left
    → so_far ++ served serve before ≡ served serve all → (so_far ++ (e.0, serve e.1) ∷ []) ++ served serve left ≡ served serve all
entries_more {R} {V} serve e left before all so_far next is =
    append_assoc so_far ((e.0, serve e.1) ∷ []) (served serve left) ∙ sym (ap (λ (es : List (ℕ × R)). so_far ++ served serve es) next) ∙ is

-- at the end they are all
pub entries_all : {R V : Type 0} (serve : R → V) (left all : List (ℕ × R)) (so_far : List (ℕ × V)) → left ≡ []
    → so_far ++ served serve left ≡ served serve all → so_far ≡ served serve all
entries_all {R} {V} serve left all so_far none is =
    sym (append-nil so_far) ∙ sym (ap (λ (es : List (ℕ × R)). so_far ++ served serve es) none) ∙ is

-- the numbers of what is served are those of the rows
pub served_numbers : {R V : Type 0} (serve : R → V) (rows : List (ℕ × R)) → numbers_of (served serve rows) ≡ keys_of rows
served_numbers serve [] = refl
served_numbers serve (r ∷ rows) = ap (λ (ns : List ℕ). r.0 ∷ ns) (served_numbers serve rows)

-- and they stand by number
pub entries_in_order : {R V : Type 0} (serve : R → V) (rows : List (ℕ × R)) (all : List (ℕ × V)) → IsStrictlySortedBy nat_cmp (keys_of rows)
    → all ≡ served serve rows → IsStrictlySortedBy nat_cmp (numbers_of all)
entries_in_order {R} {V} serve rows all up is =
    subst (IsStrictlySortedBy nat_cmp) (sym (served_numbers serve rows) ∙ sym (ap (λ (es : List (ℕ × V)). numbers_of es) is)) up
