use Rattle.imap_exchange.proofs.Refutations.{nothing_is_read_once_decided}
use Rattle.imap_exchange.proofs.laws.nothing_is_read_once_decided.Goals as goal

pub returns : goal.returns
returns c = nothing_is_read_once_decided
