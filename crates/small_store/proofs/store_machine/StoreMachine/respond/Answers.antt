use Rattle.std.proofs.lemmas.Result.{IfOk-weaker}
use Rattle.std.proofs.Common.{subst}
use Rattle.std.specs.Prelude.{IfOk}
use Rattle.honest_store.specs.Honest.{Honest}
use Rattle.honest_store.specs.Others.{NoStep}
use Rattle.honest_store.specs.Sessions.{StoreSession}
use Rattle.small_store.proofs.Honesty.{honest_answer}
use Rattle.small_store.proofs.store_machine.StoreMachine.respond.Goals as goal

pub returns-clause-honest : goal.returns-clause-honest
returns-clause-honest c =
    subst (λ (s : StoreSession). IfOk c.respond.result (λ a. Honest NoStep s c.args.command.now a c.respond.new.self)) c.self.view_is
    (IfOk-weaker c.respond.result _ _ (λ a is. honest_answer c.self.inside.machine c.respond.new.self c.args.command.now a c.self.invariant c.requires is)
    c.respond.ensures.ok)
