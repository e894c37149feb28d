use Rattle.imap_exchange.proofs.Refutations.{too_much_ends_so}
use Rattle.imap_exchange.proofs.laws.too_much_ends_so.Goals as goal

pub returns : goal.returns
returns c = too_much_ends_so
