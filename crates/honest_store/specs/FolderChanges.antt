-- Changes of folders and their names (RFC 9051 sections 6.3.4 to 6.3.8). What a command does is made of them, and so is what others do.
use Rattle.std.specs.Prelude.{◌≡◌, ◌≢◌, ◌⊎◌, ℕ, ◌==◌, Bool, not, List, [], ◌∷◌, ◌++◌, Option, Some, None, filter, map, if◌then◌else◌, codes, bytes_eq, All}
use Rattle.std.specs.List.{Any, flat_map}
use Rattle.honest_store.specs.StoreMail.{StoreFolder, NameUse, StoreMail, IsFolder, folder_called}
use Rattle.honest_store.specs.Attributes.{subscribed}
use Rattle.honest_store.specs.WellFormed.{use_of}

-- The folders are these now, and names come to those that were used. Names that can't be selected may come and go with them: a parent
-- that a CREATE makes, what a DELETE leaves for children.
pub record ChangesFolders (before : StoreMail) (folders : List StoreFolder) (uses : List NameUse) (after : StoreMail) : Type 0 where
  pub folders_are : after.folders ≡ folders
  pub uses_are : after.uses ≡ before.uses ++ uses

-- ---- CREATE (RFC 9051 section 6.3.4) and DELETE (section 6.3.5)

-- a new folder, without messages
pub record CreatesFolder (before : StoreMail) (f : StoreFolder) (after : StoreMail) : Type 0 where
  pub free : folder_called before.folders f.name ≡ None
  pub fresh : All (λ u. u.number ≢ f.number) before.uses
  pub empty : (f.messages ≡ []) × (f.expunged ≡ [])
  pub changes : ChangesFolders before (before.folders ++ f ∷ []) (use_of f ∷ []) after

-- a folder ends
pub record DeletesFolder (before : StoreMail) (f : StoreFolder) (after : StoreMail) : Type 0 where
  pub there : IsFolder before f.number f
  pub changes : ChangesFolders before (filter (λ g. not (g.number == f.number)) before.folders) [] after

-- ---- RENAME (RFC 9051 section 6.3.6)

abbrev pub inbox_name : List ℕ
inbox_name = codes "INBOX"

-- what stands behind this beginning; None where the text begins otherwise
abbrev pub text_after : List ℕ → List ℕ → Option (List ℕ)
text_after [] t = Some t
text_after (c ∷ s) [] = None
text_after (c ∷ s) (d ∷ t) = if c == d then text_after s t else None

-- the text, where it begins with the delimiter
abbrev pub from_delimiter : ℕ → Option (List ℕ) → Option (List ℕ)
from_delimiter d None = None
from_delimiter d (Some []) = None
from_delimiter d (Some (c ∷ t)) = if c == d then Some (c ∷ t) else None

-- of a name below another: the delimiter and what follows it (RFC 9051 section 5.1)
abbrev pub child_part : List ℕ → Option ℕ → List ℕ → Option (List ℕ)
child_part parent None name = None
child_part parent (Some d) name = from_delimiter d (text_after parent name)

abbrev pub renamed_child : List ℕ → List ℕ → Option (List ℕ) → List ℕ
renamed_child name to None = name
renamed_child name to (Some rest) = to ++ rest

-- the folder's name once `from` is `to`: of the folder itself, of one below it, of any other
abbrev pub name_after_rename : List ℕ → List ℕ → StoreFolder → List ℕ
name_after_rename from to f = if bytes_eq f.name from then to else renamed_child f.name to (child_part from f.delimiter f.name)

abbrev pub renamed_folder : List ℕ → List ℕ → StoreFolder → StoreFolder
renamed_folder from to f = record f { name = name_after_rename from to f }

abbrev pub renamed_folders : List ℕ → List ℕ → List StoreFolder → List StoreFolder
renamed_folders from to fs = map (renamed_folder from to) fs

-- the use of the folder's new name, where it has another
abbrev pub new_use : List ℕ → List ℕ → StoreFolder → List NameUse
new_use from to f = if bytes_eq (name_after_rename from to f) f.name then [] else use_of (renamed_folder from to f) ∷ []

-- a folder has the name, or it is one that can't be selected
abbrev pub IsNameThere : StoreMail → List ℕ → Type 0
IsNameThere mail name = Any (λ f. f.name ≡ name) mail.folders ⊎ Any (λ n. n.name ≡ name) mail.unselectable

-- the folder and those below it have other names; INBOX keeps its own
pub record RenamesFolders (before : StoreMail) (from to : List ℕ) (after : StoreMail) : Type 0 where
  pub no_inbox : from ≢ inbox_name
  pub there : IsNameThere before from
  pub free : folder_called before.folders to ≡ None
  pub changes : ChangesFolders before (renamed_folders from to before.folders) (flat_map (new_use from to) before.folders) after

-- ---- SUBSCRIBE and UNSUBSCRIBE (RFC 9051 sections 6.3.7 and 6.3.8)

abbrev pub with_subscription : List ℕ → Bool → StoreFolder → StoreFolder
with_subscription name on f = if bytes_eq f.name name then record f { attributes = subscribed on f.attributes } else f

-- the name is subscribed, or no longer; no folder need have it
abbrev pub ChangesSubscription : StoreMail → List ℕ → Bool → StoreMail → Type 0
ChangesSubscription before name on after = ChangesFolders before (map (with_subscription name on) before.folders) [] after
