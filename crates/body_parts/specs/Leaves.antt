-- The leaves of a tree of parts, in the order of the octets.
use Rattle.std.specs.Prelude.{◌≡◌, true, false, List, [], ◌∷◌, ◌++◌}
use Rattle.mime_tree.specs.declared.part.Part.{Part}
use Rattle.mime_tree.specs.Parts.{children}
use Rattle.mime_tree.specs.Roles.{is_leaf}

-- the leaves in a multipart, and those of the parts after it
pub record MultipartLeaves (p : Part) : Type 0 where
  pub no_leaf : is_leaf p ≡ false
  pub inner : List Part
  pub behind : List Part

-- these are the leaves of the parts
pub data AreLeaves : List Part → List Part → Type 0 where
  End : AreLeaves [] []
  Leaf : (p : Part) (ps behind : List Part) → is_leaf p ≡ true → AreLeaves ps behind → AreLeaves (p ∷ ps) (p ∷ behind)
  Multi : (p : Part) (ps : List Part) (leaves : MultipartLeaves p) → AreLeaves (children p) leaves.inner → AreLeaves ps leaves.behind
      → AreLeaves (p ∷ ps) (leaves.inner ++ leaves.behind)
