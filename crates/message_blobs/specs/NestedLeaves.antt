-- The octets that numbers of leaves name, each of a leaf within the one before (RFC 8621 section 4.1.4, blobId).
use Rattle.std.specs.Prelude.{◌≡◌, ℕ, Bool, List, [], ◌∷◌, Some}
use Rattle.mime_tree.specs.declared.part.Part.{Part}
use Rattle.mime_tree.specs.Bodies.{HasOctets}
use Rattle.mime_tree.specs.Parts.{IsUnder, part_number}
use Rattle.mime_tree.specs.Trees.{IsMessage}

-- the leaf of this number in the message b spells these octets
pub record LeafSpells (b : List ℕ) (number : ℕ) (octets : List ℕ) : Type 0 where
  pub message : Part
  pub is_message : IsMessage b message
  pub leaf : Part
  pub is_under : IsUnder leaf message
  pub number_is : part_number leaf ≡ Some number
  pub problem : Bool
  pub spelled : HasOctets leaf b octets problem

-- No number names b itself. A number and further ones name what the further ones name in the octets of that leaf of the message b.
abbrev pub NamesOctets : List ℕ → List ℕ → List ℕ → Type 0
NamesOctets [] b octets = octets ≡ b
NamesOctets (n ∷ ns) b octets = (inner : List ℕ) × LeafSpells b n inner × NamesOctets ns inner octets
