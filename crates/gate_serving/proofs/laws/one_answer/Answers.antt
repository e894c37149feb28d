use Rattle.gate_serving.proofs.OneAnswer.{one_answer}
use Rattle.gate_serving.proofs.laws.one_answer.Goals as goal

pub returns : goal.returns
returns c = one_answer c.calls_have_one_course.ensures c.one_blob_found.ensures
