-- What a walk over touches has seen of an id.
use Rattle.std.specs.Prelude.{◌≡◌, ℕ, suc, ◌+◌, ◌<◌, ◌≤◌, ◌==◌, List, [], ◌∷◌, false, if◌then◌else◌, take, length, Option, Some, None}
use Rattle.std.specs.Option.{ForSome}
use Rattle.std.specs.Ordering.{nat_cmp}
use Rattle.std.specs.BTreeMap.{BTreeMap, get}
use Rattle.change_list.specs.Touches.{leaves, finds, touches}
use Rattle.change_list.specs.declared.entries.Entry.{Entry}
use Rattle.change_list.specs.declared.walk.Seen.{Seen}

abbrev pub seen_after_one : Option Seen → Entry → Seen
seen_after_one None e = record { was_there = finds e.kind; is_there = leaves e.kind; counts_alone = e.counts_only }
seen_after_one (Some x) e = record { was_there = x.was_there; is_there = leaves e.kind; counts_alone = (if x.counts_alone then e.counts_only else false) }

-- what has been seen of q after these touches
abbrev pub seen_after : Option Seen → List Entry → ℕ → Option Seen
seen_after known [] q = known
seen_after known (e ∷ es) q = seen_after (if e.id == q then Some (seen_after_one known e) else known) es q

-- how many of these touches are the first of their id, after those before
abbrev pub fresh_count : List Entry → List Entry → ℕ
fresh_count before [] = 0
fresh_count before (e ∷ es) = if touches before e.id then fresh_count before es else suc (fresh_count (e ∷ before) es)

-- how many ids are touched, as a walk counts them
abbrev pub touched_count : List Entry → ℕ
touched_count es = fresh_count [] es

-- m has what was seen of each id in the first touches, and these are as many as max allows
pub record Gathered (rest : List Entry) (max : Option ℕ) (m : BTreeMap ℕ Seen) (taken : ℕ) : Type 0 where
  pub within : taken ≤ length rest
  pub known : (q : ℕ) → get nat_cmp m q ≡ seen_after None (take taken rest) q
  pub few : ForSome max (λ most. touched_count (take taken rest) ≤ most)
  pub full : taken < length rest → (most : ℕ) × (max ≡ Some most) × (most < touched_count (take (taken + 1) rest))
