use Rattle.imap_exchange.proofs.Refutations.{each_piece_is_due}
use Rattle.imap_exchange.proofs.laws.each_piece_is_due.Goals as goal

pub returns : goal.returns
returns c = each_piece_is_due
