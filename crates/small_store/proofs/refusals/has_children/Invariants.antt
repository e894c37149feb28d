use Rattle.std.proofs.Common.{◌≡◌, drop}
use Rattle.std.specs.List.{list_any}
use Rattle.small_store.specs.reading.Names.{is_below}
use Rattle.small_store.proofs.refusals.has_children.Given as goal

abbrev pub invariant-loop-folder : goal.invariant-loop-folder
invariant-loop-folder l = list_any (is_below l.name) (drop l.folder-index l.folders) ≡ list_any (is_below l.name) l.folders
