use Rattle.std.proofs.Common.{◌≡◌, ◌++◌, [], drop, map}
use Rattle.told_folder.specs.declared.message.NumberedFolder.{NumberedFolder}
use Rattle.mail_maps.specs.Mailboxes.{mailboxes_of}
use Rattle.check_report.specs.Findings.{folder_finding, role_at, folder_findings}
use Rattle.check_report.proofs.finding.folder_findings.Given as goal

abbrev pub invariant-loop-held : goal.invariant-loop-held
invariant-loop-held l =
    l.found.items ++ map (λ (h : NumberedFolder). folder_finding h (role_at (mailboxes_of l.held-items []) h.folder.number)) (drop l.held-index l.held-items)
    ≡ folder_findings l.held-items
