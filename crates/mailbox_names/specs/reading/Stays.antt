-- Names that a RENAME gives, looked up one after another.
use Rattle.std.specs.Prelude.{ℕ, Bool, false, not, List, Option, Some, None}
use Rattle.told_folder.specs.declared.message.Folder.{Folder}
use Rattle.told_folder.specs.declared.message.NumberedFolder.{NumberedFolder}
use Rattle.told_mail.specs.Mail.{named}
use Rattle.told_mail.specs.Renames.{renamed_name}
use Rattle.mailbox_names.specs.Renames.{is_renamed}

abbrev pub is_staying : List ℕ → List ℕ → Option NumberedFolder → Bool
is_staying from to None = false
is_staying from to (Some h) = not (is_renamed from to h)

-- a folder has this name and isn't renamed
abbrev pub stays : List ℕ → List ℕ → List NumberedFolder → List ℕ → Bool
stays from to hs name = is_staying from to (named hs name)

abbrev pub stays_at : List ℕ → List ℕ → List NumberedFolder → Option (List ℕ) → Bool
stays_at from to hs None = false
stays_at from to hs (Some name) = stays from to hs name

-- the name that the folder gets is that of one that isn't renamed
abbrev pub gives_clash : List ℕ → List ℕ → List NumberedFolder → Folder → Bool
gives_clash from to hs f = stays_at from to hs (renamed_name from to f)
