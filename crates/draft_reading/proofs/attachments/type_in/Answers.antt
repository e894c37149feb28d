use Rattle.draft_reading.proofs.PartLemmas.{octets_are_leaf}
use Rattle.draft_reading.proofs.attachments.type_in.Goals as goal

pub returns-in_default-clause-leaf : goal.returns-in_default-clause-leaf
returns-in_default-clause-leaf c = octets_are_leaf

pub returns-then-is_of-clause-leaf : goal.returns-then-is_of-clause-leaf
returns-then-is_of-clause-leaf c = octets_are_leaf
