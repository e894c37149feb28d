use Rattle.query_orders.proofs.KeyLemmas.{same_truth}
use Rattle.query_orders.proofs.emails.some_has.Goals as goal

pub returns : goal.returns
returns c = λ emails keyword are. same_truth _ _ (c.thread_matches.ensures emails keyword are)
