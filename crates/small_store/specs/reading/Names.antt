-- Names that can't be made.
use Rattle.std.specs.Prelude.{ℕ, nat_lt, ◌++◌, ◌||◌, Bool, false, List, Option, Some, None, length, is_some}
use Rattle.honest_store.specs.StoreMail.{StoreFolder, StoreMail, folder_called}
use Rattle.honest_store.specs.FolderChanges.{child_part}
use Rattle.small_answers.specs.Limits.{text_limit}

-- the folder stands below the name
abbrev pub is_below : List ℕ → StoreFolder → Bool
is_below name f = is_some (child_part name f.delimiter f.name)

-- a folder has the name, or it is too long
abbrev pub is_name_refused : StoreMail → List ℕ → Bool
is_name_refused mail name = nat_lt text_limit (length name) || is_some (folder_called mail.folders name)

abbrev pub is_part_refused : StoreMail → List ℕ → Option (List ℕ) → Bool
is_part_refused mail to None = false
is_part_refused mail to (Some rest) = is_name_refused mail (to ++ rest)

-- the folder stands below `from`, and its name below `to` can't be made
abbrev pub is_child_refused : StoreMail → List ℕ → List ℕ → StoreFolder → Bool
is_child_refused mail from to f = is_part_refused mail to (child_part from f.delimiter f.name)
