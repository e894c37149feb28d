-- Messages of which some stand in a vector, and those after them in a map.
use Rattle.std.specs.Prelude.{◌≡◌, ℕ, ◌+◌, ◌<◌, ◌≤◌, ◌++◌, List, [], ◌∷◌, Vec, vec_len, vec_capacity}
use Rattle.std.specs.BTreeMap.{BTreeMap, values, btree_map_len}
use Rattle.std.specs.declared.alloc.Global.{Global}
use Rattle.told_folder.specs.Folders.{uid_of}
use Rattle.told_folder.specs.Keyed.{Ascends}
use Rattle.told_folder.specs.declared.message.Message.{Message}

abbrev pub all_of : Vec Message Global → BTreeMap ℕ Message → List Message
all_of before after = before.items ++ values after

-- each key is the UID of its message
abbrev pub AllKeyed : List (ℕ × Message) → Type 0
AllKeyed [] = Unit {0}
AllKeyed (e ∷ es) = (e.0 ≡ e.1.uid) × AllKeyed es

-- each UID is below this one
abbrev pub AllUnder : ℕ → List Message → Type 0
AllUnder k [] = Unit {0}
AllUnder k (x ∷ xs) = (x.uid < k) × AllUnder k xs

-- the messages ascend, and the vector has room for those of the map
pub record IsParted (before : Vec Message Global) (after : BTreeMap ℕ Message) : Type 0 where
  pub ascends : Ascends uid_of (all_of before after)
  pub keyed : AllKeyed after.entries
  pub room : vec_len before + btree_map_len after ≤ vec_capacity before
