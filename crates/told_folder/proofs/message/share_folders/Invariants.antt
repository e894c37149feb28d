-- So far the copies are the folders before the index.
use Rattle.std.proofs.Common.{◌≡◌, take}
use Rattle.told_folder.proofs.message.share_folders.Given as goal

abbrev pub invariant-loop-held : goal.invariant-loop-held
invariant-loop-held l = l.shared.items ≡ take l.held-index l.folders
