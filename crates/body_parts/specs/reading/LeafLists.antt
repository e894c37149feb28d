-- Leaves that the code holds, and those that lists name by their numbers.
use Rattle.std.specs.Prelude.{◌≡◌, ℕ, ◌-◌, List, [], ◌∷◌, ◌++◌, map, Option, Some, slice_get, option_to_list}
use Rattle.std.proofs.Common.{Bor}
use Rattle.std.specs.List.{flat_map}
use Rattle.mime_tree.specs.declared.part.Part.{Part}
use Rattle.mime_tree.specs.Parts.{IsUnder, IsWithin}
use Rattle.body_parts.specs.Leaves.{AreLeaves}
use Rattle.body_parts.specs.Previews.{IsPreviewOf, IsPreview}

-- the parts that are referred to
abbrev pub parts_of : List (Bor Part) → List Part
parts_of refs = map (λ (r : Bor Part). r.now) refs

-- the leaf of this number
abbrev pub part_at : List Part → ℕ → Option Part
part_at leaves n = slice_get leaves (n - 1)

-- the leaves of these numbers
abbrev pub parts_at : List Part → List ℕ → List Part
parts_at leaves ns = flat_map (λ (n : ℕ). option_to_list (part_at leaves n)) ns

-- the leaves of these parts were gathered
abbrev pub Gathers : List Part → List Part → List Part → Type 0
Gathers ps before after = (ls : List Part) × AreLeaves ps ls × (after ≡ before ++ ls)

-- the part and what stands under it lie within the octets
abbrev pub IsAllWithin : List ℕ → Part → Type 0
IsAllWithin b p = (q : Part) → IsUnder q p → IsWithin q b

-- and so does each of these parts with what stands under it
abbrev pub AreAllWithin : List ℕ → List Part → Type 0
AreAllWithin b [] = Unit {0}
AreAllWithin b (p ∷ ps) = IsAllWithin b p × AreAllWithin b ps

-- no leaf of these numbers is a plain text
abbrev pub NoPlain : List Part → List ℕ → Type 0
NoPlain leaves ns = (b : List ℕ) → IsPreview b (parts_at leaves ns) []

-- the part is the first plain text of the leaves of these numbers
pub record IsFirstPlain (leaves : List Part) (ns : List ℕ) (p : Part) : Type 0 where
  pub number : ℕ
  pub there : part_at leaves number ≡ Some p
  pub shown : (b preview : List ℕ) → IsPreviewOf b p preview → IsPreview b (parts_at leaves ns) preview
