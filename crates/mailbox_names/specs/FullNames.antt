-- The names of folders: that of the parent, its delimiter, and the Mailbox's own name (RFC 9051 section 5.1.1).
use Rattle.std.specs.Prelude.{ℕ, List, [], ◌∷◌, ◌++◌, Option, Some, None}
use Rattle.told_folder.specs.declared.message.Folder.{Folder}

abbrev pub prefix_by : Option ℕ → List ℕ → List ℕ
prefix_by None name = name
prefix_by (Some d) name = name ++ d ∷ []

-- what names under the parent begin with
abbrev pub prefix_of : Option Folder → List ℕ
prefix_of None = []
prefix_of (Some parent) = prefix_by parent.delimiter parent.name

-- the name of the folder that has this name under the parent
abbrev pub full_name : Option Folder → List ℕ → List ℕ
full_name parent name = prefix_of parent ++ name
