-- The text that an outline stands for.
use Rattle.std.specs.Prelude.{ℕ, List, ◌++◌}
use Rattle.std.specs.List.{flat_map}
use Rattle.message_lines.specs.declared.leaf.Leaf.{Leaf}
use Rattle.message_lines.specs.Bodies.{base64_lines}

-- text, and octets in base64 after it
abbrev pub leaf_text : Leaf → List ℕ
leaf_text leaf = leaf.before.items ++ base64_lines leaf.octets

-- leaves one after another, and text after them
abbrev pub outline_text : List Leaf → List ℕ → List ℕ
outline_text leaves text = flat_map leaf_text leaves ++ text
