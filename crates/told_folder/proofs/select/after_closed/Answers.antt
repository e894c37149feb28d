use Rattle.std.proofs.Common.{sym, ◌∙◌, arith}
use Rattle.told_folder.proofs.StepLemmas.{closed_end, closed_whole}
use Rattle.told_folder.proofs.select.after_closed.Goals as goal

pub returns : goal.returns
returns c = sym (closed_end c.loop-at.after.now c.args.responses.now c.loop-at.at (omega arith)) ∙ c.loop-at.invariant ∙ closed_whole c.args.responses.now
