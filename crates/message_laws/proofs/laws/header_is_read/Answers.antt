use Rattle.message_laws.proofs.HeaderLines.{header_read}
use Rattle.message_laws.proofs.laws.header_is_read.Goals as goal

pub returns : goal.returns
returns c = header_read
