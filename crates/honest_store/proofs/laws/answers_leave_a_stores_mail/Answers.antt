use Rattle.honest_store.proofs.Answered.{answer_well_formed}
use Rattle.honest_store.proofs.laws.answers_leave_a_stores_mail.Goals as goal

pub returns : goal.returns
returns c = answer_well_formed
