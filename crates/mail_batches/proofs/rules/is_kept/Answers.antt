use Rattle.mail_batches.proofs.RuleLemmas.{same_kept}
use Rattle.mail_batches.proofs.rules.is_kept.Goals as goal

pub returns : goal.returns
returns c = same_kept _ _ c.args.names.now (rw c.as_slice.ensures at c.in_ok-kept.ensures) c.are_same.ensures
