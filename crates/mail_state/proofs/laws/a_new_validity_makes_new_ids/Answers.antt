use Rattle.mail_state.proofs.ValidityLemmas.{new_ids}
use Rattle.mail_state.proofs.laws.a_new_validity_makes_new_ids.Goals as goal

pub returns : goal.returns
returns c = new_ids
