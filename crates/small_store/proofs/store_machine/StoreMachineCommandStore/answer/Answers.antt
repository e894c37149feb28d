use Rattle.std.proofs.lemmas.Result.{IfOk-weaker}
use Rattle.std.proofs.Common.{◌≡◌, subst}
use Rattle.std.specs.Prelude.{IfOk}
use Rattle.honest_store.specs.Honest.{Honest}
use Rattle.honest_store.specs.Others.{NoStep}
use Rattle.honest_store.specs.Sessions.{StoreAnswer, StoreSession}
use Rattle.small_responses.specs.AnswerTexts.{text_of_answer}
use Rattle.small_store.proofs.Honesty.{honest_answer}
use Rattle.small_store.proofs.store_machine.StoreMachineCommandStore.answer.Goals as goal

pub returns-clause-honest : goal.returns-clause-honest
returns-clause-honest c =
    subst (λ (s : StoreSession). IfOk c.answer.result (λ octets. (a : StoreAnswer) × Honest NoStep s c.args.command.now a c.answer.new.self
    × (octets.items ≡ text_of_answer c.args.tag.now a))) c.self.view_is
    (IfOk-weaker c.answer.result _ _
    (λ octets is. (is.0, honest_answer c.self.inside.machine c.answer.new.self c.args.command.now is.0 c.self.invariant c.requires.command is.1, is.2)) c.answer.ensures.ok)
