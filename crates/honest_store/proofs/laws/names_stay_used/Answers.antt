use Rattle.honest_store.proofs.Answered.{answer_keeps}
use Rattle.honest_store.proofs.Used.{keeps_apart, keeps_happened, keeps_joined}
use Rattle.honest_store.proofs.laws.names_stay_used.Goals as goal

pub returns : goal.returns
returns c = record { answers = answer_keeps; steps = λ before after step. keeps_happened before after step.happens; joined = keeps_joined; apart = keeps_apart }
