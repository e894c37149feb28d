use Rattle.mail_state.proofs.ValidityLemmas.{one_message}
use Rattle.mail_state.proofs.laws.a_mark_names_one_message.Goals as goal

pub returns : goal.returns
returns c = one_message
