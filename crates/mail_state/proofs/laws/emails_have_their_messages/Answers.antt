use Rattle.mail_state.proofs.ToldRows.{all_have_their_messages}
use Rattle.mail_state.proofs.laws.emails_have_their_messages.Goals as goal

pub returns : goal.returns
returns c = all_have_their_messages
