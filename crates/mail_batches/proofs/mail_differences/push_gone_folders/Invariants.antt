use Rattle.std.proofs.Common.{take}
use Rattle.mail_batches.specs.reading.Adding.{Adds, GoneFolder}
use Rattle.mail_batches.proofs.mail_differences.push_gone_folders.Given as goal

abbrev pub invariant-loop-held : goal.invariant-loop-held
invariant-loop-held l = Adds (GoneFolder l.after.mail) (take l.held-index l.before) l.initial.items.items l.items.items
