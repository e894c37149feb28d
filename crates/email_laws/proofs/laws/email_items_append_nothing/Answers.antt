use Rattle.email_laws.proofs.PlainSteps.{plain_append}
use Rattle.email_laws.proofs.PlainJobs.{updates_plain, destroys_plain}
use Rattle.email_laws.proofs.laws.email_items_append_nothing.Goals as goal

pub returns-clause-update : goal.returns-clause-update
returns-clause-update c g text patch job is = plain_append job.steps (updates_plain g text patch job is)

pub returns-clause-destroy : goal.returns-clause-destroy
returns-clause-destroy c g text job is = plain_append job.steps (destroys_plain g text job is)
