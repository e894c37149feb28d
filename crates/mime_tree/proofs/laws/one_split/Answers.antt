use Rattle.mime_tree.proofs.OneSplit as lemmas
use Rattle.mime_tree.proofs.laws.one_split.Goals as goal

pub returns : goal.returns
returns c = λ b y r s g h. lemmas.one_split b y r s g h
