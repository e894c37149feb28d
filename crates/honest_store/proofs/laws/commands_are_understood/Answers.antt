use Rattle.honest_store.proofs.Answered.{is_understood}
use Rattle.honest_store.proofs.laws.commands_are_understood.Goals as goal

pub returns : goal.returns
returns c = is_understood
