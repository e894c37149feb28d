use Rattle.message_laws.proofs.OneMessage.{one_message}
use Rattle.message_laws.proofs.laws.one_message_text.Goals as goal

pub returns : goal.returns
returns c = one_message
