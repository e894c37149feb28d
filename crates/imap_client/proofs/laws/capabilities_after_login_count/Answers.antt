use Rattle.imap_client.proofs.ConnectedLives.{connected_lives}
use Rattle.imap_client.proofs.laws.capabilities_after_login_count.Goals as goal

pub returns : goal.returns
returns c = connected_lives
