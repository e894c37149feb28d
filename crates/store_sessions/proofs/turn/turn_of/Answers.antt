use Rattle.std.proofs.Common.{ℕ, List, subst}
use Rattle.std.proofs.lemmas.Result.{IfOk-weaker, on_err_weaker}
use Rattle.store_commands.specs.Answers.{IsReadAs}
use Rattle.small_responses.specs.AnswerTexts.{text_of_answer}
use Rattle.store_sessions.specs.Turns.{IsAnswer, Answered, Asks, Waits, Ends}
use Rattle.store_sessions.proofs.Telling.{lacks_after, read_of_answer}
use Rattle.store_sessions.proofs.turn.turn_of.Goals as goal

pub returns-in-Whole-clause-ok : goal.returns-in-Whole-clause-ok
returns-in-Whole-clause-ok g c = λ unread is.
    IfOk-weaker c.answer_command.result _ _ (λ turn made. Answered (subst (IsReadAs unread) c.in-Whole.is is) made.1
    (subst (λ (tag : List ℕ). IsAnswer turn c.in-Whole.length (text_of_answer tag made.0)) c.as_slice.ensures made.2)) c.answer_command.ensures.ok

pub returns-in-Whole-clause-length : goal.returns-in-Whole-clause-length
returns-in-Whole-clause-length g c = λ unread is.
    IfOk-weaker c.answer_command.result _ _
    (λ turn made. read_of_answer _ unread turn made.2 (subst (IsReadAs unread) c.in-Whole.is is).0) c.answer_command.ensures.ok

pub returns-in-Whole-clause-err : goal.returns-in-Whole-clause-err
returns-in-Whole-clause-err g c = λ unread is.
    on_err_weaker c.answer_command.result (lacks_after (subst (IsReadAs unread) c.in-Whole.is is)) c.answer_command.ensures.err

pub returns-in-NeedMore-clause-ok : goal.returns-in-NeedMore-clause-ok
returns-in-NeedMore-clause-ok g c = λ unread is. Waits (subst (IsReadAs unread) c.in-NeedMore.is is)

pub returns-in-WantsLiteral-clause-ok : goal.returns-in-WantsLiteral-clause-ok
returns-in-WantsLiteral-clause-ok g c = λ unread is. Asks (subst (IsReadAs unread) c.in-WantsLiteral.is is)

pub returns-in-Bad-clause-ok : goal.returns-in-Bad-clause-ok
returns-in-Bad-clause-ok g c = λ unread is. Ends (subst (IsReadAs unread) c.in-Bad.is is)
