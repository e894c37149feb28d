use Rattle.mail_state.proofs.NumberLemmas.{new_in_order}
use Rattle.mail_state.proofs.laws.new_emails_are_in_order.Goals as goal

pub returns : goal.returns
returns c = new_in_order
