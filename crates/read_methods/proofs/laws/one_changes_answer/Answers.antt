use Rattle.read_methods.proofs.OneAnswer.{one_changes_answer}
use Rattle.read_methods.proofs.laws.one_changes_answer.Goals as goal

pub returns : goal.returns
returns c = one_changes_answer
