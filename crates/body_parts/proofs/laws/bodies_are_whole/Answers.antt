use Rattle.body_parts.proofs.WholeLemmas.{bodies_whole, body_whole}
use Rattle.body_parts.proofs.laws.bodies_are_whole.Goals as goal

pub returns-clause-property : goal.returns-clause-property
returns-clause-property c = λ m asked p d h. body_whole m asked p d h

pub returns-clause-members : goal.returns-clause-members
returns-clause-members c = λ m asked before after h g. bodies_whole m asked before after h g
