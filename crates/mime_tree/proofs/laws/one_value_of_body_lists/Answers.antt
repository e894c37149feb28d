use Rattle.mime_tree.specs.declared.tree.TheConstants.{MAX_DEPTH}
use Rattle.mime_tree.proofs.OneTree.{one_message}
use Rattle.mime_tree.proofs.OneWalk.{one_value}
use Rattle.mime_tree.proofs.SameWalks.{same_lists}
use Rattle.mime_tree.proofs.laws.one_value_of_body_lists.Goals as goal

pub returns-clause-part : goal.returns-clause-part
returns-clause-part c = λ p l m i j. one_value p l m i j

pub returns-clause-message : goal.returns-clause-message
returns-clause-message c = λ b p q l m one other i j. same_lists MAX_DEPTH p q l m (one_message b p q one other) i j
