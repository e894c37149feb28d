use Rattle.std.proofs.Common.{◌≡◌, ◌++◌, drop}
use Rattle.std.specs.List.{flat_map}
use Rattle.message_lines.specs.Outlines.{leaf_text}
use Rattle.message_lines.proofs.outline.Outline.encode.Given as goal

abbrev pub invariant-loop-leaf : goal.invariant-loop-leaf
invariant-loop-leaf l = l.text.items ++ flat_map leaf_text (drop l.leaf-index l.leaf-items) ≡ flat_map leaf_text l.leaf-items
