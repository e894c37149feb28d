-- So far the copies are the messages before the index.
use Rattle.std.proofs.Common.{◌≡◌, take}
use Rattle.told_folder.proofs.message.share_messages.Given as goal

abbrev pub invariant-loop-message : goal.invariant-loop-message
invariant-loop-message l = l.shared.items ≡ take l.message-index l.messages
