use Rattle.std.proofs.Common.{ℕ, ◌++◌, filter, take, drop}
use Rattle.told_mail.specs.reading.Index.{IsMirror}
use Rattle.told_mail.specs.reading.Lines.{is_listed}
use Rattle.told_mail.proofs.ended.clear_ended.Given as goal

abbrev pub invariant-loop-held : goal.invariant-loop-held
invariant-loop-held l = (next_mark next_folder : ℕ) → IsMirror l.folders l.initial.marks l.initial.numbers next_mark next_folder
    → IsMirror (filter (is_listed l.lines) (take l.held-index l.folders) ++ drop l.held-index l.folders) l.marks l.numbers next_mark next_folder
