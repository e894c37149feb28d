use Rattle.mail_state.proofs.ChangeLemmas.{all_stay}
use Rattle.mail_state.proofs.laws.messages_stay.Goals as goal

pub returns : goal.returns
returns c = all_stay
