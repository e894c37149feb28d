-- How far a RENAME has come: names that are looked up, and folders that took theirs.
use Rattle.std.specs.Prelude.{◌≡◌, ℕ, List, Option, Vec, bytes_eq, map}
use Rattle.std.specs.List.{list_any, filter_map}
use Rattle.std.specs.Option.{option_map}
use Rattle.std.specs.BTreeSet.{BTreeSet}
use Rattle.std.specs.declared.alloc.Global.{Global}
use Rattle.told_folder.specs.declared.message.NumberedFolder.{NumberedFolder}
use Rattle.told_mail.specs.Renames.{has_one_named, name_after, names_given, renamed_name, with_name}

-- the set has these names
abbrev pub HasNames : BTreeSet (Vec ℕ Global) → List (List ℕ) → Type 0
HasNames set names = (q : List ℕ) → list_any (bytes_eq q) (map (λ v. v.items) set.keys) ≡ has_one_named q names

-- the name that a folder has after the RENAME, of these folders
abbrev pub name_of : List ℕ → List ℕ → List NumberedFolder → NumberedFolder → Option (List ℕ)
name_of from to hs h = name_after (names_given from to hs) (renamed_name from to h.folder) h.folder

-- each folder with its name; one without ends
abbrev pub named_by : (NumberedFolder → Option (List ℕ)) → List NumberedFolder → List NumberedFolder
named_by name hs = filter_map (λ h. option_map (λ n. with_name n h) (name h)) hs
