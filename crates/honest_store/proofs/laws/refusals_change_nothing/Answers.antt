use Rattle.honest_store.proofs.Answered.{refusal_changes_nothing}
use Rattle.honest_store.proofs.laws.refusals_change_nothing.Goals as goal

pub returns : goal.returns
returns c = refusal_changes_nothing
