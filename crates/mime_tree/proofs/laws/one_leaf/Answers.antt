use Rattle.std.proofs.Common.{ℕ, List, length, arith}
use Rattle.mime_tree.specs.declared.part.Part.{Part}
use Rattle.mime_tree.specs.Heads.{text_plain}
use Rattle.mime_tree.specs.Parts.{IsUnder}
use Rattle.mime_tree.specs.Trees.{IsMessage}
use Rattle.mime_tree.proofs.UnderLemmas.{Numbered, tree_numbered}
use Rattle.mime_tree.proofs.laws.one_leaf.Goals as goal

numbered : (b : List ℕ) (p : Part) (h : IsMessage b p) → Numbered (λ q. IsUnder q p) 1 h.next
numbered b p h = tree_numbered h.levels b 0 (length b) text_plain 1 p h.next h.tree

pub returns-clause-one : goal.returns-clause-one
returns-clause-one c = λ b p q r n h u v i j. (numbered b p h).one q r n u v i j

pub returns-clause-from_one : goal.returns-clause-from_one
returns-clause-from_one c = λ b p q n h u i. ((numbered b p h).between q n u i).0

pub returns-clause-no_gap : goal.returns-clause-no_gap
returns-clause-no_gap c = λ b p q m n h u i from to. let w = (numbered b p h).between q n u i in (numbered b p h).all m from (omega (arith, w.1))
