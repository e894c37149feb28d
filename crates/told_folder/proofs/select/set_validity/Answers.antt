use Rattle.std.proofs.Common.{arith}
use Rattle.told_folder.proofs.StepLemmas.{renewed}
use Rattle.told_folder.proofs.select.set_validity.Goals as goal

pub returns-then-validity-folder : goal.returns-then-validity-folder
returns-then-validity-folder c =
    renewed c.args.work.now c.tell_gone.new.work c.args.folder.now c.args.validity _ c.if-validity-folder.true c.tell_gone.ensures c.one_more-work.ensures (omega arith)
