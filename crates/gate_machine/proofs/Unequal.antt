-- What `!=` says.
use Rattle.std.proofs.Common.{◌≡◌, ◌∙◌, ℕ, Bool, true, false, not, List, eqb, refl, sym, ap}
use Rattle.std.specs.Bool.{Decides}
use Rattle.std.specs.Cmp.Lexicographic.{pointwise}
use Rattle.std.proofs.lemmas.Bool.Decides.{Decides-eqb}
use Rattle.std.proofs.lemmas.Slice.Eq.{slice_eq-Decides}

not_true : true ≡ false → ⊥
not_true is = cc

-- what is the same isn't found unequal
pub unequal : {P : Type 0} (differs equal : Bool) → differs ≡ true → differs ≡ not equal → Decides equal P → P → ⊥
unequal differs equal is not_equal decides same = not_true (sym is ∙ not_equal ∙ ap not (decides.1 same))

-- lists of names are the same where their octets are
pub names_decide : (f g : List (List ℕ)) → Decides (pointwise (pointwise eqb) f g) (f ≡ g)
names_decide f g = slice_eq-Decides (λ (x y : List ℕ). slice_eq-Decides Decides-eqb x y _ refl) f g _ refl
