use Rattle.std.proofs.Common.{◌∙◌, ℕ, List, inr, ap}
use Rattle.std.proofs.lemmas.Result.{IfOk-weaker}
use Rattle.small_responses.specs.AnswerTexts.{text_of_answer}
use Rattle.small_store.proofs.MachineAnswers.{beside_error}
use Rattle.small_store.proofs.machine.StoredMachine.answer.Goals as goal

pub returns-clause-ok : goal.returns-clause-ok
returns-clause-ok c =
    let a = c.in_ok-answer.answer in
    IfOk-weaker c.octets_of.result _ _
    (λ octets is. (a, c.in_ok-answer.ensures.ok, is ∙ ap (λ (tag : List ℕ). text_of_answer tag a) c.in_ok-tag.ensures)) c.octets_of.ensures

pub returns-clause-err : goal.returns-clause-err
returns-clause-err c = beside_error c.octets_of.result (inr (c.in_ok-answer.answer, c.in_ok-answer.ensures.ok))
