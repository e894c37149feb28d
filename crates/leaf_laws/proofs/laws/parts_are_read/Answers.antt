use Rattle.leaf_laws.proofs.DraftTree.{parts_are_read}
use Rattle.leaf_laws.proofs.laws.parts_are_read.Goals as goal

pub returns : goal.returns
returns c = parts_are_read
