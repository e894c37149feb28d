-- Roles, taken by one folder after another: the first that has a role takes it.
use Rattle.std.specs.Prelude.{◌≡◌, ℕ, ◌==◌, List, Bool, false, Option, Some, None, if◌then◌else◌}
use Rattle.std.specs.List.{list_any}
use Rattle.std.specs.BTreeSet.{BTreeSet, contains}
use Rattle.std.specs.Ordering.{nat_cmp}
use Rattle.told_folder.specs.declared.message.Folder.{Folder}
use Rattle.mail_maps.specs.declared.row.Role.{Role}
use Rattle.mail_maps.specs.Roles.{role_told, role_number}

abbrev pub number_is : ℕ → Option Role → Bool
number_is q None = false
number_is q (Some role) = role_number role == q

-- whether the folder's first role has the number
abbrev pub claims : ℕ → Folder → Bool
claims q f = number_is q (role_told f)

-- the roles of these folders are taken, and no others
abbrev pub AreTaken : BTreeSet ℕ → List Folder → Type 0
AreTaken taken fs = (q : ℕ) → contains nat_cmp taken q ≡ list_any (claims q) fs

-- the role, unless it is taken
abbrev pub role_left : BTreeSet ℕ → Option Role → Option Role
role_left taken None = None
role_left taken (Some role) = if contains nat_cmp taken (role_number role) then None else Some role
