use Rattle.imap_client.proofs.GoingOn.{round_goes_on, body_goes_on}
use Rattle.imap_client.proofs.laws.finished_lives_go_on.Goals as goal

pub returns-clause-round : goal.returns-clause-round
returns-clause-round c = round_goes_on

pub returns-clause-body : goal.returns-clause-body
returns-clause-body c = body_goes_on
