use Rattle.body_parts.proofs.OneBody as lemmas
use Rattle.body_parts.proofs.laws.one_body.Goals as goal

pub returns-clause-property : goal.returns-clause-property
returns-clause-property c = λ m asked p d e g h. lemmas.one_body m asked p d e g h

pub returns-clause-members : goal.returns-clause-members
returns-clause-members c = λ m asked before x y g h. lemmas.one_bodies m asked before x y g h
