use Rattle.std.proofs.Common.{subst, Err}
use Rattle.gate_world.proofs.Joins.{none, widen}
use Rattle.gate_words.specs.declared.task.WordsError.{WordsError}
use Rattle.gateway.specs.ReadWords.{AreRead}
use Rattle.gateway.proofs.Performing.{runs_lacking, runs_refused}
use Rattle.gateway.proofs.program.end_unread.Goals as goal

pub returns-in-Refused-clause-run : goal.returns-in-Refused-clause-run
returns-in-Refused-clause-run g c =
    widen _ c.end_refused.ensures.said (λ x said words are.
    runs_refused (subst (λ (e : WordsError). AreRead words (Err e)) c.in-Refused.is are) c.end_refused.ensures.alone c.end_refused.ensures.status said)

pub returns-in-Memory-clause-run : goal.returns-in-Memory-clause-run
returns-in-Memory-clause-run g c = none _ _ (λ words are. runs_lacking _)
