-- Mailboxes that are under one parent, and the names by which they are served (RFC 8621 section 2).
use Rattle.std.specs.Prelude.{ℕ, ◌&&◌, Bool, not, List, bytes_eq, Option, Some}
use Rattle.std.specs.List.{list_any}
use Rattle.std.specs.Option.{option_map, option_eq}
use Rattle.std.specs.Str.Lossy.{utf8_lossy}
use Rattle.told_folder.specs.declared.message.Folder.{Folder}
use Rattle.mail_maps.specs.Hierarchy.{parent_in, own_name}

abbrev pub name_of : Option Folder → Option (List ℕ)
name_of folder = option_map (λ (f : Folder). f.name) folder

-- Folders are one where their names are: no two have one name.
abbrev pub same_folder : Option Folder → Option Folder → Bool
same_folder a b = option_eq bytes_eq (name_of a) (name_of b)

-- octets are served as this text
abbrev pub is_served_as : List ℕ → List ℕ → Bool
is_served_as octets text = bytes_eq (utf8_lossy octets) text

-- the parent, or the top level, is where the folder is
abbrev pub is_child_of : List Folder → Option Folder → Folder → Bool
is_child_of fs parent f = same_folder (parent_in fs f) parent

abbrev pub is_named_child : List Folder → Option Folder → List ℕ → Folder → Bool
is_named_child fs parent name f = is_child_of fs parent f && bytes_eq (own_name fs f) name

-- it is another than this one
abbrev pub is_other_child : List Folder → Option Folder → Option Folder → List ℕ → Folder → Bool
is_other_child fs this parent name f = not (same_folder this (Some f)) && is_named_child fs parent name f

-- another folder than this one is under the parent and is served as these octets would be
abbrev pub has_sibling : List Folder → Option Folder → Option Folder → List ℕ → Bool
has_sibling fs this parent name = list_any (is_other_child fs this parent (utf8_lossy name)) fs

abbrev pub has_child : List Folder → Folder → Bool
has_child fs f = list_any (is_child_of fs (Some f)) fs
