use Rattle.message_laws.proofs.DateReading.{date_is_read}
use Rattle.message_laws.proofs.laws.date_is_read.Goals as goal

pub returns : goal.returns
returns c = date_is_read
