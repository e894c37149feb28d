use Rattle.std.proofs.lemmas.Result.{IfOk-weaker}
use Rattle.std.proofs.Common.{ap, subst}
use Rattle.std.specs.Prelude.{IfOk, IsTrue}
use Rattle.honest_store.specs.Sessions.{StoreSession}
use Rattle.honest_store.specs.StoreMail.{StoreMail}
use Rattle.small_answers.specs.SmallMail.{IsOwnersStep}
use Rattle.small_store.proofs.Honesty.{shifts}
use Rattle.small_store.proofs.store_machine.StoreMachine.shift.Goals as goal

pub returns-clause-step : goal.returns-clause-step
returns-clause-step c =
    subst (λ (m : StoreMail). IfOk c.shift.result (λ done. IsTrue done → IsOwnersStep m c.shift.new.self.mail)) (ap (λ (s : StoreSession). s.mail) c.self.view_is)
    (IfOk-weaker c.shift.result _ _
    (λ done gives. shifts c.self.inside.machine.mail c.shift.new.self.mail c.self.invariant done c.args.at gives) c.shift.ensures.ok)
