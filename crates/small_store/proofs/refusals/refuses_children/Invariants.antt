use Rattle.std.proofs.Common.{◌≡◌, drop}
use Rattle.std.specs.List.{list_any}
use Rattle.small_store.specs.reading.Names.{is_child_refused}
use Rattle.small_store.proofs.refusals.refuses_children.Given as goal

abbrev pub invariant-loop-folder : goal.invariant-loop-folder
invariant-loop-folder l =
    list_any (is_child_refused l.mail l.from l.to) (drop l.folder-index l.folder-items) ≡ list_any (is_child_refused l.mail l.from l.to) l.mail.folders
