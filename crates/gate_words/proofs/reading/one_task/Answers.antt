use Rattle.gate_words.proofs.Tasks.{same-task}
use Rattle.gate_words.proofs.reading.one_task.Goals as goal

pub returns : goal.returns
returns c = same-task
