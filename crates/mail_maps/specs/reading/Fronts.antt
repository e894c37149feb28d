-- Parents by look-ups: of the fronts of a name that end before a delimiter, the longest that is a folder's name.
use Rattle.std.specs.Prelude.{◌≡◌, ℕ, zero, suc, ◌==◌, List, Bool, drop, take, length, Option, None, if◌then◌else◌}
use Rattle.std.specs.List.{list_any}
use Rattle.std.specs.BTreeSet.{BTreeSet, contains}
use Rattle.std.specs.Option.{option_map, option_or}
use Rattle.std.specs.Ordering.{nat_cmp}
use Rattle.told_folder.specs.declared.message.Folder.{Folder}
use Rattle.told_folder.specs.declared.message.NumberedFolder.{NumberedFolder}
use Rattle.told_mail.specs.Mail.{named}
use Rattle.mail_maps.specs.Hierarchy.{goes_on}

-- the folder whose name is the front of this length, where the delimiter and more follow it
abbrev pub front_at : List NumberedFolder → List ℕ → ℕ → ℕ → Option Folder
front_at hs name delimiter len = if goes_on delimiter (drop len name) then option_map (λ (h : NumberedFolder). h.folder) (named hs (take len name)) else None

-- the folder of the longest front below this length that is a folder's name
abbrev pub front_below : List NumberedFolder → List ℕ → ℕ → ℕ → Option Folder
front_below hs name delimiter zero = None
front_below hs name delimiter (suc len) = option_or (front_at hs name delimiter len) (front_below hs name delimiter len)

-- whether the folder's name has this length
abbrev pub has_length : ℕ → NumberedFolder → Bool
has_length len h = length h.folder.name == len

-- these are the lengths of the folders' names
abbrev pub AreLengths : BTreeSet ℕ → List NumberedFolder → Type 0
AreLengths lengths hs = (q : ℕ) → contains nat_cmp lengths q ≡ list_any (has_length q) hs
