-- What a RENAME would give (RFC 9051 section 6.3.6).
use Rattle.std.specs.Prelude.{ℕ, ◌&&◌, ◌||◌, Bool, false, not, List, [], is_some, Option, Some, None}
use Rattle.std.specs.List.{list_any}
use Rattle.told_folder.specs.declared.message.Folder.{Folder}
use Rattle.told_folder.specs.declared.message.NumberedFolder.{NumberedFolder}
use Rattle.told_mail.specs.Renames.{renamed_name, names_given, has_one_named}
use Rattle.mail_maps.specs.Hierarchy.{is_below}

abbrev pub is_under : Option ℕ → List ℕ → List ℕ → Bool
is_under None name above = false
is_under (Some d) name above = is_below name d above

-- the parent is the folder itself or one that is renamed with it, or is below it by its delimiter
abbrev pub is_within : Folder → Option Folder → Bool
is_within f None = false
is_within f (Some parent) = is_some (renamed_name f.name [] parent) || is_under f.delimiter parent.name f.name

abbrev pub is_renamed : List ℕ → List ℕ → NumberedFolder → Bool
is_renamed from to h = is_some (renamed_name from to h.folder)

-- a folder that isn't renamed has a name that a folder gets
abbrev pub clashes : List ℕ → List ℕ → List NumberedFolder → Bool
clashes from to hs = list_any (λ (h : NumberedFolder). not (is_renamed from to h) && has_one_named h.folder.name (names_given from to hs)) hs
