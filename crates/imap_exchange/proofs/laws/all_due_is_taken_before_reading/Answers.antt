use Rattle.imap_exchange.proofs.Refutations.{all_due_is_taken_before_reading}
use Rattle.imap_exchange.proofs.laws.all_due_is_taken_before_reading.Goals as goal

pub returns : goal.returns
returns c = all_due_is_taken_before_reading
