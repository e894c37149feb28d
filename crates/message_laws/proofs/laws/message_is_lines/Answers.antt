use Rattle.message_laws.proofs.MessageLines.{message_safe}
use Rattle.message_laws.proofs.laws.message_is_lines.Goals as goal

pub returns : goal.returns
returns c = message_safe
