use Rattle.std.proofs.Common.{◌≡◌, List, take}
use Rattle.told_folder.specs.Keyed.{Ascends}
use Rattle.told_folder.specs.Folders.{uid_of}
use Rattle.told_folder.specs.FolderTelling.{telling_of, GoesOn, IsIndexOf}
use Rattle.told_folder.specs.Tell as telling
use Rattle.told_folder.specs.declared.message.NumberedFolder.{NumberedFolder}
use Rattle.told_folder.proofs.telling.tell_responses.Given as goal

abbrev pub invariant-loop-response : goal.invariant-loop-response
invariant-loop-response l = record {
  on : GoesOn l.initial.work l.work;
  ascends : Ascends uid_of l.work.messages;
  told : telling_of l.work ≡ telling.tell_responses l.adds (telling_of l.initial.work) (take l.response-index l.responses);
  known : telling.AllKnown l.adds (telling_of l.initial.work) (take l.response-index l.responses) → l.work.changes ≡ l.initial.work.changes;
  index : (hs : List NumberedFolder) → IsIndexOf hs l.initial.work → IsIndexOf hs l.work;
}
