use Rattle.std.proofs.Common.{◌≡◌, ◌++◌, ℕ, List, map, take, drop}
use Rattle.honest_store.specs.StoreMail.{StoreFolder}
use Rattle.small_mail.proofs.renames.set_names.Given as goal

abbrev pub invariant-loop-folder : goal.invariant-loop-folder
invariant-loop-folder l =
    (name_of : StoreFolder → List ℕ) → l.fn.names.items ≡ map name_of l.fn.folders
    → (l.folders ≡ map (λ (f : StoreFolder). record f { name = name_of f }) (take l.folder-index l.fn.folders) ++ drop l.folder-index l.fn.folders)
    × (l.names.items ≡ drop l.folder-index (map name_of l.fn.folders))
