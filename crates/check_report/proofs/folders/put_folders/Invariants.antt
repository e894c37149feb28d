use Rattle.std.proofs.Common.{◌≡◌, ◌++◌, drop}
use Rattle.std.specs.List.{flat_map}
use Rattle.check_report.specs.Lines.{folder_line}
use Rattle.check_report.proofs.folders.put_folders.Given as goal

abbrev pub invariant-loop-folder : goal.invariant-loop-folder
invariant-loop-folder l = l.out.items ++ flat_map folder_line (drop l.folder-index l.found) ≡ l.fn.out.items ++ flat_map folder_line l.found
