use Rattle.std.proofs.Common.{refl, sym, ap, subst}
use Rattle.told_mail.specs.Told.{Told}
use Rattle.gate_machine.specs.Kept.{KeptMail, IsKeptOf}
use Rattle.gate_machine.proofs.Keeping.{goes_on, spends_place, spent_so}
use Rattle.gate_machine.proofs.known.Known.serve_told.Goals as goal

pub returns-in-Ok-apply-clause-ok : goal.returns-in-Ok-apply-clause-ok
returns-in-Ok-apply-clause-ok c = λ k kept new.
    let a : KeptMail = record { state = c.self.inside.state; served = c.self.inside.served.mail; told = c.self.inside.told; bodies = c.self.inside.bodies } in
    goes_on k a _ c.in-Ok-apply.field-0-1 (subst (λ (x : KeptMail). IsKeptOf k x) (sym c.self.view_is) kept) new c.in-Ok-apply.ensures.follows
    (ap (λ (t : Told). t.mail) c.in-Ok.ensures) refl refl

pub returns-in-Err-Spent-clause-spent : goal.returns-in-Err-Spent-clause-spent
returns-in-Err-Spent-clause-spent c = λ is k kept.
    let a : KeptMail = record { state = c.self.inside.state; served = c.self.inside.served.mail; told = c.self.inside.told; bodies = c.self.inside.bodies } in
    spends_place k a (subst (λ (x : KeptMail). IsKeptOf k x) (sym c.self.view_is) kept)
    (λ h stands next. spent_so (Unit {0}) c.in-Err-Spent.field-0-is (c.in-Err-Spent.ensures.spends h stands next))
