use Rattle.std.proofs.Common.{◌∙◌, sym, refl, Err}
use Rattle.gate_machine.proofs.Stages.{settled, spent, lacked}
use Rattle.gate_machine.proofs.machine.Machine.settle.Goals as goal

pub returns-in-Ok-clause-run : goal.returns-in-Ok-clause-run
returns-in-Ok-clause-run c = λ before client was now came.
    settled before client was now c.args.self.now _ c.in-Some.known c.in-Ok.known came (sym c.take.ensures.value ∙ c.in-Some.is) c.in-Ok.ensures.ok refl

pub returns-in-Err-Spent-clause-run : goal.returns-in-Err-Spent-clause-run
returns-in-Err-Spent-clause-run c = λ before client was now came.
    spent before client was now c.args.self.now _ c.in-Some.known came (sym c.take.ensures.value ∙ c.in-Some.is)
    (c.in-Err-Spent.ensures.spent (λ i. Err (c.in-Err-Spent.field-0-is i))) c.take.ensures.after

pub returns-in-Err-Memory-clause-run : goal.returns-in-Err-Memory-clause-run
returns-in-Err-Memory-clause-run c = λ before client was now came. lacked before client was now c.args.self.now _ came c.take.ensures.after
