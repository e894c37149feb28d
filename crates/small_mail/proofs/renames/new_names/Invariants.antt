use Rattle.std.proofs.Common.{◌≡◌, map, take}
use Rattle.std.specs.List.{flat_map}
use Rattle.honest_store.specs.FolderChanges.{name_after_rename, new_use}
use Rattle.small_mail.proofs.renames.new_names.Given as goal

abbrev pub invariant-loop-folder : goal.invariant-loop-folder
invariant-loop-folder l =
    (l.names.items ≡ map (name_after_rename l.from l.to) (take l.folder-index l.folders)) × (l.uses.items ≡ flat_map (new_use l.from l.to) (take l.folder-index l.folders))
