use Rattle.std.proofs.lemmas.Result.{IfOk-weaker}
use Rattle.std.proofs.Common.{ℤ, ap, subst, w64}
use Rattle.std.proofs.lemmas.Int.{to_z-of_z}
use Rattle.std.specs.Prelude.{IfOk, IsTrue}
use Rattle.honest_store.specs.Sessions.{StoreSession}
use Rattle.honest_store.specs.StoreMail.{StoreMail}
use Rattle.small_answers.specs.OwnersCalls.{CallGives, delivered}
use Rattle.small_answers.specs.SmallMail.{IsOwnersStep}
use Rattle.small_store.proofs.Honesty.{delivers}
use Rattle.small_store.proofs.store_machine.StoreMachine.deliver.Goals as goal

pub returns-clause-step : goal.returns-clause-step
returns-clause-step c =
    subst (λ (m : StoreMail). IfOk c.deliver.result (λ done. IsTrue done → IsOwnersStep m c.deliver.new.self.mail)) (ap (λ (s : StoreSession). s.mail) c.self.view_is)
    (IfOk-weaker c.deliver.result _ _
    (λ done gives. delivers c.self.inside.machine.mail c.deliver.new.self.mail c.self.invariant done c.args.folder.now c.args.message.now c.args.date c.requires.date c.requires.fits gives)
    (subst (λ (d : ℤ). IfOk c.deliver.result (λ done. CallGives c.self.inside.machine.mail (delivered c.self.inside.machine.mail c.args.folder.now c.args.message.now d) done c.deliver.new.self.mail))
    (to_z-of_z w64 c.args.date c.ranges.date) c.deliver.ensures.ok))
