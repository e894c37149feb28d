use Rattle.std.proofs.Common.{ap}
use Rattle.told_folder.specs.declared.message.Message.{Message}
use Rattle.gate_machine.proofs.Unequal.{unequal, names_decide}
use Rattle.gate_machine.proofs.differences.message_differs.Goals as goal

pub returns : goal.returns
returns c = λ is same. unequal c.ne.result _ is c.ne.ensures (names_decide c.args.a.now.flags c.args.b.now.flags) (ap (λ (m : Message). m.flags) same)
