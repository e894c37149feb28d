use Rattle.mailbox_laws.proofs.FitJobs.{creations_good, destroys_good, updates_good}
use Rattle.mailbox_laws.proofs.laws.mailbox_items_begin_held.Goals as goal

pub returns-clause-create : goal.returns-clause-create
returns-clause-create c g ms job is = (creations_good g ms job is).held g.mail

pub returns-clause-update : goal.returns-clause-update
returns-clause-update c g text patch job is = (updates_good g text patch job is).held g.mail

pub returns-clause-destroy : goal.returns-clause-destroy
returns-clause-destroy c g removes text job is = (destroys_good g removes text job is).held g.mail
