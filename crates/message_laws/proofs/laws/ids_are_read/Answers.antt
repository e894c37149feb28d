use Rattle.message_laws.proofs.IdLines.{ids_read}
use Rattle.message_laws.proofs.laws.ids_are_read.Goals as goal

pub returns : goal.returns
returns c = ids_read
