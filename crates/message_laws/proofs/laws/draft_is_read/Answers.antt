use Rattle.message_laws.proofs.DraftReading.{draft_is_read}
use Rattle.message_laws.proofs.laws.draft_is_read.Goals as goal

pub returns : goal.returns
returns c = draft_is_read
