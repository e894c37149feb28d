-- Sets of UIDs: what they hold.
use Rattle.std.proofs.Common.{◌≡◌, ℕ, ◌<◌, List, length, refl, sym, subst, ◌∙◌, All, slice_index_or}
use Rattle.std.proofs.lemmas.List.{get_or_default}
use Rattle.imap_types.specs.declared.uid_set.UidRange.{UidRange}
use Rattle.imap_types.specs.UidSets.{InRange, IsWithin, Holds, HoldsOnly}

-- where no range of a set holds a UID but one, the set holds no other
pub within_holds : (rs : List UidRange) (uid other : ℕ) → All (IsWithin uid) rs → Holds rs other → other ≡ uid
unfolding IsWithin
within_holds rs uid other all h = subst (IsWithin uid) h.3 (all h.0 h.1 h.2) other h.4

-- a set holds the UIDs of the range at each index
pub holds_at : (rs : List UidRange) (k : ℕ) (d : UidRange) (uid : ℕ) → k < length rs → InRange (slice_index_or rs k d) uid → Holds rs uid
holds_at rs k d uid lt h = (k, slice_index_or rs k d, lt, get_or_default rs k (slice_index_or rs k d) d lt, h)

-- a set that holds a UID, and whose ranges hold no other, holds only that UID
pub only_of : (rs : List UidRange) (uid : ℕ) → Holds rs uid → All (IsWithin uid) rs → HoldsOnly rs uid
unfolding HoldsOnly
only_of rs uid h all other = (within_holds rs uid other all, λ e. subst (Holds rs) (sym e) h)

-- in a set that holds only one UID, no range holds a UID but the one that the set holds
pub only_within : (rs : List UidRange) (uid some : ℕ) → HoldsOnly rs uid → Holds rs some → All (IsWithin some) rs
unfolding IsWithin HoldsOnly
only_within rs uid some only h k d lt = λ other q. (only other).0 (holds_at rs k d other lt q) ∙ sym ((only some).0 h)

-- a set that holds only one UID holds it
pub only_held : (rs : List UidRange) (uid : ℕ) → HoldsOnly rs uid → Holds rs uid
unfolding HoldsOnly
only_held rs uid only = (only uid).1 refl
