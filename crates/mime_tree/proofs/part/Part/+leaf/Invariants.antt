use Rattle.std.proofs.Common.{◌≡◌, ◌≢◌, ◌<◌, ℕ, get_or, Some}
use Rattle.mime_tree.specs.declared.part.Part.{Part}
use Rattle.mime_tree.specs.Parts.{part_number, IsUnder}
use Rattle.mime_tree.proofs.part.Part.+leaf.Given as goal

abbrev pub decreases-leaf : goal.decreases-leaf
decreases-leaf l = goal.size-leaf l

-- no part under the children so far has the number
abbrev pub invariant-loop-child : goal.invariant-loop-child
invariant-loop-child l = (k : ℕ) → k < l.child-index → (x : Part) → get_or l.child-items k x ≡ x → (q : Part) → IsUnder q x → part_number q ≢ Some l.number
