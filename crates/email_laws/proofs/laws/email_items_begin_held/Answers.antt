use Rattle.email_laws.proofs.HeldJobs.{destroys_held, updates_held}
use Rattle.email_laws.proofs.laws.email_items_begin_held.Goals as goal

pub returns-clause-update : goal.returns-clause-update
returns-clause-update c g text patch job is = updates_held g text patch job is

pub returns-clause-destroy : goal.returns-clause-destroy
returns-clause-destroy c g text job is = destroys_held g text job is
