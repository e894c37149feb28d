use Rattle.std.proofs.Common.{◌∙◌, sym}
use Rattle.gate_machine.proofs.Lent.{lent}
use Rattle.gate_machine.proofs.machine.Machine.lend.Goals as goal

pub returns-clause-lent : goal.returns-clause-lent
returns-clause-lent c =
    lent c.args.self.now c.in-Some.known c.args.client c.lend.result.0 c.lend.result.1 (sym c.take.ensures.value ∙ c.in-Some.is) c.lend.ensures.state c.lend.ensures.served
    c.lend.ensures.fetching
