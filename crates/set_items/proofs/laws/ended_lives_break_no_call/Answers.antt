use Rattle.set_items.proofs.Broken.{ended_before}
use Rattle.set_items.proofs.laws.ended_lives_break_no_call.Goals as goal

pub returns : goal.returns
returns c = ended_before
