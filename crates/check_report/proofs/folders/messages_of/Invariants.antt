use Rattle.std.proofs.Common.{◌≡◌, ◌+◌, ◌≤◌, drop, min, sum_by}
use Rattle.check_report.specs.declared.finding.FolderFinding.{FolderFinding}
use Rattle.check_report.proofs.folders.messages_of.Given as goal

abbrev pub invariant-loop-folder : goal.invariant-loop-folder
invariant-loop-folder l =
    (l.messages ≤ 18446744073709551615) × (min (l.messages + sum_by (λ (f : FolderFinding). f.messages) (drop l.folder-index l.found)) 18446744073709551615
    ≡ min (sum_by (λ (f : FolderFinding). f.messages) l.found) 18446744073709551615)
