use Rattle.mime_tree.proofs.OneTree as lemmas
use Rattle.mime_tree.proofs.laws.one_tree.Goals as goal

pub returns : goal.returns
returns c = λ b p q g h. lemmas.one_message b p q g h
