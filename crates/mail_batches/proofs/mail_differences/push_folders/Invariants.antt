use Rattle.std.proofs.Common.{take}
use Rattle.mail_batches.specs.reading.Adding.{Adds, PutFolder}
use Rattle.mail_batches.proofs.mail_differences.push_folders.Given as goal

abbrev pub invariant-loop-held : goal.invariant-loop-held
invariant-loop-held l = Adds (PutFolder l.before.mail) (take l.held-index l.after) l.initial.items.items l.items.items
