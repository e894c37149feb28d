-- Names that may be under a parent.
use Rattle.std.specs.Prelude.{ℕ, ◌==◌, List, [], ◌∷◌, drop, length, if◌then◌else◌, Option, Some, None}
use Rattle.std.specs.Option.{option_eq}
use Rattle.mail_maps.specs.Hierarchy.{begins_with}
use Rattle.told_folder.specs.declared.message.Folder.{Folder}

abbrev pub after_delimiter : Option ℕ → List ℕ → Option (List ℕ)
after_delimiter delimiter [] = None
after_delimiter delimiter (c ∷ rest) = if option_eq ◌==◌ delimiter (Some c) then Some rest else None

-- what follows the parent's name and the folder's delimiter
abbrev pub rest_under : Option Folder → Folder → Option (List ℕ)
rest_under None f = Some f.name
rest_under (Some parent) f = if begins_with f.name parent.name then after_delimiter f.delimiter (drop (length parent.name) f.name) else None
