-- What a RENAME changes of the folders (RFC 9051 section 6.3.6).
use Rattle.std.specs.Prelude.{ℕ, ◌==◌, Bool, List, [], ◌∷◌, ◌++◌, Option, Some, None, if◌then◌else◌, length, take, drop, bytes_eq}
use Rattle.std.specs.List.{list_any, filter_map}
use Rattle.std.specs.Option.{option_map}
use Rattle.told_folder.specs.declared.message.Folder.{Folder}
use Rattle.told_folder.specs.declared.message.NumberedFolder.{NumberedFolder}
use Rattle.told_mail.specs.Lists.{is_inbox}
use Rattle.told_mail.specs.Mail.{Mail, is_same}

-- ---- names

-- what follows the other text; none where the text begins otherwise
abbrev pub rest_after : List ℕ → List ℕ → Option (List ℕ)
rest_after front t = if bytes_eq (take (length front) t) front then Some (drop (length front) t) else None

abbrev pub from_delimiter : ℕ → Option (List ℕ) → Option (List ℕ)
from_delimiter d None = None
from_delimiter d (Some []) = None
from_delimiter d (Some (c ∷ t)) = if c == d then Some (c ∷ t) else None

-- of a name below another: the delimiter and what follows it (RFC 9051 section 5.1)
abbrev pub child_part : List ℕ → Option ℕ → List ℕ → Option (List ℕ)
child_part parent None name = None
child_part parent (Some d) name = from_delimiter d (rest_after parent name)

-- the name that the folder gets where `from` becomes `to`; none where it isn't renamed
abbrev pub renamed_name : List ℕ → List ℕ → Folder → Option (List ℕ)
renamed_name from to f = if is_same f.name from then Some to else option_map (λ rest. to ++ rest) (child_part from f.delimiter f.name)

-- the names that folders get
abbrev pub names_given : List ℕ → List ℕ → List NumberedFolder → List (List ℕ)
names_given from to hs = filter_map (λ h. renamed_name from to h.folder) hs

abbrev pub has_one_named : List ℕ → List (List ℕ) → Bool
has_one_named name names = list_any (is_same name) names

-- ---- folders

-- the name that the folder has then; none where it ends, since another gets its name
abbrev pub name_after : List (List ℕ) → Option (List ℕ) → Folder → Option (List ℕ)
name_after given (Some name) f = Some name
name_after given None f = if has_one_named f.name given then None else Some f.name

abbrev pub with_name : List ℕ → NumberedFolder → NumberedFolder
with_name name h = record { folder = record h.folder { name = name }; messages = h.messages }

abbrev pub renamed_held : List ℕ → List ℕ → List (List ℕ) → NumberedFolder → Option NumberedFolder
renamed_held from to given h = option_map (λ name. with_name name h) (name_after given (renamed_name from to h.folder) h.folder)

-- the folder and those below it have other names, all at once
abbrev pub renamed_folders : List ℕ → List ℕ → List NumberedFolder → List NumberedFolder
renamed_folders from to hs = filter_map (renamed_held from to (names_given from to hs)) hs

-- Of INBOX it tells nothing: INBOX stays, and its messages move to a new folder, with UIDs that no response tells.
abbrev pub with_renamed : Mail → List ℕ → List ℕ → Mail
with_renamed m from to = if is_inbox from then m else record m { folders = renamed_folders from to m.folders }
