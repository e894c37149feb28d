use Rattle.std.proofs.lemmas.Result.{IfOk-weaker}
use Rattle.std.proofs.Common.{ap, subst}
use Rattle.std.specs.Prelude.{IfOk, IsTrue}
use Rattle.honest_store.specs.Sessions.{StoreSession}
use Rattle.honest_store.specs.StoreMail.{StoreMail}
use Rattle.small_answers.specs.SmallMail.{IsOwnersStep}
use Rattle.small_store.proofs.Honesty.{expunges}
use Rattle.small_store.proofs.store_machine.StoreMachine.expunge.Goals as goal

pub returns-clause-step : goal.returns-clause-step
returns-clause-step c =
    subst (λ (m : StoreMail). IfOk c.expunge.result (λ done. IsTrue done → IsOwnersStep m c.expunge.new.self.mail)) (ap (λ (s : StoreSession). s.mail) c.self.view_is)
    (IfOk-weaker c.expunge.result _ _
    (λ done gives. expunges c.self.inside.machine.mail c.expunge.new.self.mail c.self.invariant done c.args.at gives) c.expunge.ensures.ok)
