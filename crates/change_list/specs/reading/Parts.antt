-- Which ids stand in which list of an answer.
use Rattle.std.specs.Prelude.{◌≡◌, ℕ, Bool, true, not, ◌&&◌, Some}
use Rattle.std.specs.Ordering.{nat_cmp}
use Rattle.std.specs.BTreeMap.{BTreeMap, get}
use Rattle.change_list.specs.declared.walk.Seen.{Seen}
use Rattle.change_list.specs.declared.parts.Part.{Part}
use Rattle.change_list.specs.declared.parts.Part.TheVariants.{Created, Updated, Destroyed, Mixed}

abbrev pub has_of : Part → Seen → Bool
has_of Created x = not x.was_there && x.is_there
has_of Updated x = x.was_there && x.is_there
has_of Destroyed x = x.was_there && not x.is_there
has_of Mixed x = x.was_there && x.is_there && not x.counts_alone

-- q was seen, and stands in this part
abbrev pub IsIn : BTreeMap ℕ Seen → Part → ℕ → Type 0
IsIn m part q = (x : Seen) × (get nat_cmp m q ≡ Some x) × (has_of part x ≡ true)
