use Rattle.std.proofs.Common.{◌≡◌, ℕ, ◌+◌, ◌<◌, ◌∷◌, ◌++◌, List, sym, ap, ◌∙◌, append_assoc, drop, length, arith}
use Rattle.std.specs.List.{flat_map}
use Rattle.std.proofs.lemmas.List.{drop_more}
use Rattle.check_report.specs.Lines.{folder_line}
use Rattle.check_report.specs.declared.finding.FolderFinding.{FolderFinding}
use Rattle.check_report.proofs.folders.put_folders.Goals as goal

pub loop-folder-preserved : goal.loop-folder-preserved
loop-folder-preserved c =
    let found : List FolderFinding = c.args.found.now in
    let i = c.loop-folder.folder-index in
    let within : i < length found = omega (arith, c.loop-folder-test.true) in
    let folder : FolderFinding = c.folder-item.result in
    let next : drop i found ≡ folder ∷ drop (i + 1) found =
    drop_more found i folder within ∙ ap (λ (x : FolderFinding). x ∷ drop (i + 1) found) (sym c.folder-item.is) in
    let later = flat_map folder_line (drop (i + 1) found) in
    ap (λ (o : List ℕ). o ++ later) c.in_ok-put_folder.ensures
    ∙ append_assoc c.loop-folder.out.items (folder_line folder) later
    ∙ ap (λ (fs : List FolderFinding). c.loop-folder.out.items ++ flat_map folder_line fs) (sym next)
    ∙ c.loop-folder.invariant
