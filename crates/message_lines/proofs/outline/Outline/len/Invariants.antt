use Rattle.std.proofs.Common.{◌≡◌, ◌+◌, drop, length, min}
use Rattle.std.specs.List.{flat_map}
use Rattle.message_lines.specs.Outlines.{leaf_text}
use Rattle.message_lines.proofs.outline.Outline.len.Given as goal

abbrev pub invariant-loop-leaf : goal.invariant-loop-leaf
invariant-loop-leaf l = min (l.len + length (flat_map leaf_text (drop l.leaf-index l.leaf-items))) 18446744073709551615 ≡ min (length (flat_map leaf_text l.leaf-items)) 18446744073709551615
