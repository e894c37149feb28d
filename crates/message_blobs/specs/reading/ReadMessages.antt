-- Messages that were read, as the code holds them.
use Rattle.std.specs.Prelude.{ℕ, List}
use Rattle.mime_tree.specs.declared.part.Part.{Part}
use Rattle.mime_tree.specs.Parts.{IsUnder, IsWithin}
use Rattle.mime_tree.specs.Trees.{IsMessage}

-- the octets are this message, whose parts lie within them
pub record IsTreeOf (b : List ℕ) (tree : Part) : Type 0 where
  pub is_message : IsMessage b tree
  pub within : (p : Part) → IsUnder p tree → IsWithin p b
