use Rattle.std.proofs.Common.{ap}
use Rattle.told_folder.specs.declared.message.NumberedFolder.{NumberedFolder}
use Rattle.told_folder.proofs.SameLemmas.{folder_decides}
use Rattle.gate_machine.proofs.Unequal.{unequal}
use Rattle.gate_machine.proofs.differences.held_differs.Goals as goal

pub returns-then-ne : goal.returns-then-ne
returns-then-ne c = λ is same.
    unequal c.ne.result _ c.if-ne.true c.ne.ensures (folder_decides c.args.a.now.folder c.args.b.now.folder) (ap (λ (h : NumberedFolder). h.folder) same)
