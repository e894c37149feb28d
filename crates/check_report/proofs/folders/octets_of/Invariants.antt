use Rattle.std.proofs.Common.{◌≡◌, ◌+◌, ◌≤◌, drop, min, sum_by}
use Rattle.check_report.specs.declared.finding.FolderFinding.{FolderFinding}
use Rattle.check_report.proofs.folders.octets_of.Given as goal

abbrev pub invariant-loop-folder : goal.invariant-loop-folder
invariant-loop-folder l =
    (l.octets ≤ 18446744073709551615) × (min (l.octets + sum_by (λ (f : FolderFinding). f.header_octets) (drop l.folder-index l.found)) 18446744073709551615
    ≡ min (sum_by (λ (f : FolderFinding). f.header_octets) l.found) 18446744073709551615)
