use Rattle.std.proofs.Common.{ap}
use Rattle.told_mail.specs.Told.{Told}
use Rattle.gate_machine.proofs.Keeping.{begins}
use Rattle.gate_machine.proofs.known.Known.begun.Goals as goal

pub returns : goal.returns
returns c = begins c.args.epoch _ (c.first_stands.ensures c.args.epoch) c.in_ok-state.ensures (ap (λ (t : Told). t.mail) c.new-2.ensures) c.new-3.ensures c.in_ok-new.ensures
