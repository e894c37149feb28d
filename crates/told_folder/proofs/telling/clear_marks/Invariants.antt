use Rattle.std.proofs.Common.{◌≡◌, ℕ, take, nat_cmp}
use Rattle.std.specs.BTreeMap.{get}
use Rattle.told_folder.specs.FolderTelling.{cleared}
use Rattle.told_folder.proofs.telling.clear_marks.Given as goal

abbrev pub invariant-loop-message : goal.invariant-loop-message
invariant-loop-message g l = (q : ℕ) → get nat_cmp l.marks q ≡ cleared (g.U.Uids.has l.gone) (take l.message-index l.messages) q (get nat_cmp l.initial.marks q)
