use Rattle.std.proofs.Common.{◌≡◌, drop}
use Rattle.std.specs.List.{list_any}
use Rattle.told_folder.specs.declared.message.NumberedFolder.{NumberedFolder}
use Rattle.mailbox_names.specs.Renames.{clashes}
use Rattle.mailbox_names.specs.reading.Stays.{gives_clash}
use Rattle.mailbox_names.proofs.renames.clashes.Given as goal

-- the answer for all is that for those that are left
abbrev pub invariant-loop-held : goal.invariant-loop-held
invariant-loop-held l =
    list_any (λ (h : NumberedFolder). gives_clash l.from l.to l.mirror.mail.folders h.folder) (drop l.held-index l.held-items) ≡ clashes l.from l.to l.mirror.mail.folders
