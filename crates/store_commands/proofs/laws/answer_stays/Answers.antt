use Rattle.store_commands.proofs.Answering.{final_stays}
use Rattle.store_commands.proofs.laws.answer_stays.Goals as goal

pub returns : goal.returns
returns c = λ b more answer f h. final_stays b more answer f h
