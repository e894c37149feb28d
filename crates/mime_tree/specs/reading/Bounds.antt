-- Splits and trees up to a number of parts.
use Rattle.std.specs.Prelude.{◌≡◌, ◌<◌, ◌≤◌, ℕ, ◌+◌, ◌-◌, List, length, Option, Some, None}
use Rattle.mime_tree.specs.declared.split.Piece.{Piece}
use Rattle.mime_tree.specs.declared.split.SplitBody.{SplitBody}
use Rattle.mime_tree.specs.declared.split.SplitBody.TheVariants as body
use Rattle.mime_tree.specs.declared.part.Part.{Part}
use Rattle.mime_tree.specs.declared.tree.Built.{Built}
use Rattle.mime_tree.specs.Parts.{parts_within}
use Rattle.mime_tree.specs.Splits.{AreBehind}
use Rattle.mime_tree.specs.Trees.{ArePieces, IsTree}

abbrev pub HasMoreThan : ℕ → Option (List Piece) → Type 0
HasMoreThan most None = ⊥
HasMoreThan most (Some ps) = most < length ps

-- pieces that lie in a body of n octets, at most so many
pub record AreFew (most n : ℕ) (ps : List Piece) : Type 0 where
  pub behind : AreBehind 0 ps n
  pub few : length ps ≤ most

-- how a body of n octets is split by a boundary, if there is one, into at most so many pieces
abbrev pub IsSplitBody : ℕ → Option (List ℕ) → List ℕ → SplitBody → Type 0
IsSplitBody most boundary b body.Undelimited = ArePieces boundary b None
IsSplitBody most boundary b (body.Pieces ps) = ArePieces boundary b (Some ps) × AreFew most (length b) ps
IsSplitBody most boundary b body.TooMany = (r : Option (List Piece)) → ArePieces boundary b r → HasMoreThan most r

-- each tree of the octets has more parts
abbrev pub HasMoreParts : ℕ → ℕ → List ℕ → ℕ → ℕ → List ℕ → ℕ → Type 0
HasMoreParts most more b s e default first = (p : Part) (next : ℕ) → IsTree more b s e default first p next → most < parts_within more p

-- the tree of the octets, with its parts counted
pub record IsBuilt (most more : ℕ) (b : List ℕ) (s e : ℕ) (default : List ℕ) (first : ℕ) (t : Built) : Type 0 where
  pub tree : IsTree more b s e default first t.part t.next
  pub parts : t.parts ≡ parts_within more t.part
  pub few : t.parts ≤ most
  pub numbers : t.next ≤ first + (e - s) + 1
