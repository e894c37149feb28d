use Rattle.std.proofs.Common.{List, ℕ, refl}
use Rattle.std.proofs.lemmas.Slice.Eq.{slice_eq-Decides}
use Rattle.std.proofs.lemmas.Bool.Decides.{Decides-eqb}
use Rattle.told_folder.proofs.telling.are_same.Goals as goal

pub returns : goal.returns
returns c = (slice_eq-Decides (λ (a b : List ℕ). slice_eq-Decides (λ x y. Decides-eqb x y) a b _ refl) _ _ _ c.eq.ensures)
