use Rattle.email_creation.proofs.LawLemmas.{one_job}
use Rattle.email_creation.proofs.laws.creations_have_one_job.Goals as goal

pub returns : goal.returns
returns c = λ ready now word one other a b. one_job c.one_message_text.ensures ready now word a b
