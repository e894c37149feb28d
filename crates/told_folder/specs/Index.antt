-- An index from marks to places, beside the folders that it is of.
use Rattle.std.specs.Prelude.{◌≡◌, ℕ, ◌<◌, List, [], ◌∷◌, Option, Some}
use Rattle.std.specs.BTreeMap.{BTreeMap, get}
use Rattle.std.specs.Ordering.{nat_cmp}
use Rattle.told_folder.specs.Keyed.{Ascends}
use Rattle.told_folder.specs.Folders.{folder_number, uid_of, mark_in}
use Rattle.told_folder.specs.declared.message.NumberedFolder.{NumberedFolder}

-- each function undoes the other
pub record Inverts {K P : Type 0} (look : K → Option P) (back : P → Option K) : Type 0 where
  pub to : (k : K) (p : P) → look k ≡ Some p → back p ≡ Some k
  pub from : (k : K) (p : P) → back p ≡ Some k → look k ≡ Some p

abbrev pub AllAscend : List NumberedFolder → Type 0
AllAscend [] = Unit {0}
AllAscend (h ∷ hs) = Ascends uid_of h.messages × AllAscend hs

pub record IsIndexed (hs : List NumberedFolder) (marks : BTreeMap ℕ (ℕ × ℕ)) (next_mark : ℕ) : Type 0 where
  pub numbers : Ascends folder_number hs
  pub uids : AllAscend hs
  pub inverse : Inverts (get nat_cmp marks) (mark_in hs)
  pub below : (p : ℕ × ℕ) (q : ℕ) → mark_in hs p ≡ Some q → q < next_mark
