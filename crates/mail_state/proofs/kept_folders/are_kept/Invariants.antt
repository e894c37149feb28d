use Rattle.std.proofs.Common.{◌≡◌, drop}
use Rattle.mail_state.specs.reading.Boxes.{are_stripped}
use Rattle.mail_state.proofs.kept_folders.are_kept.Given as goal

abbrev pub invariant-loop-held : goal.invariant-loop-held
invariant-loop-held l = are_stripped l.left (drop l.held-index l.folders) ≡ are_stripped l.kept l.folders
