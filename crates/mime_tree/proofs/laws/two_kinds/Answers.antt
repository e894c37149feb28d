use Rattle.std.proofs.Common.{length}
use Rattle.mime_tree.specs.Heads.{text_plain}
use Rattle.mime_tree.proofs.KindLemmas.{tree_either}
use Rattle.mime_tree.proofs.laws.two_kinds.Goals as goal

pub returns : goal.returns
returns c = λ b p q h u. tree_either h.levels b 0 (length b) text_plain 1 p h.next h.tree q u
