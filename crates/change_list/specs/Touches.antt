-- The touches of a type since its beginning, the oldest first, and which ids are there after them.
use Rattle.std.specs.Prelude.{◌≡◌, ℕ, ◌≤◌, ◌==◌, List, [], ◌∷◌, Bool, true, false, if◌then◌else◌, take, drop}
use Rattle.change_list.specs.declared.entries.Kind.{Kind}
use Rattle.change_list.specs.declared.entries.Kind.TheVariants.{Added, Changed, Removed}
use Rattle.change_list.specs.declared.entries.Entry.{Entry}

-- whether an id is there after a touch of it
abbrev pub leaves : Kind → Bool
leaves Added = true
leaves Changed = true
leaves Removed = false

-- whether an id was there before a touch of it
abbrev pub finds : Kind → Bool
finds Added = false
finds Changed = true
finds Removed = true

-- whether q is there after these touches, where it was there before them as said
abbrev pub there_after : Bool → List Entry → ℕ → Bool
there_after was [] q = was
there_after was (e ∷ es) q = there_after (if e.id == q then leaves e.kind else was) es q

-- whether q is there at a place: nothing is at place 0
abbrev pub there_at : List Entry → ℕ → ℕ → Bool
there_at h place q = there_after false (take place h) q

-- the touches of the places s + 1 to k
abbrev pub between : List Entry → ℕ → ℕ → List Entry
between h s k = drop s (take k h)

-- whether q is touched
abbrev pub touches : List Entry → ℕ → Bool
touches [] q = false
touches (e ∷ es) q = if e.id == q then true else touches es q

-- whether each touch of q changed counts alone
abbrev pub counts_alone : List Entry → ℕ → Bool
counts_alone [] q = true
counts_alone (e ∷ es) q = if e.id == q then (if e.counts_only then counts_alone es q else false) else counts_alone es q

-- which ids are there after a touch
abbrev pub there_then : (ℕ → Bool) → Entry → ℕ → Bool
there_then was e q = if e.id == q then leaves e.kind else was q

-- each touch fits what was there: an id is added where it isn't there, and changed or removed where it is
abbrev pub FitsFrom : (ℕ → Bool) → List Entry → Type 0
FitsFrom was [] = Unit {0}
FitsFrom was (e ∷ es) = (was e.id ≡ finds e.kind) × FitsFrom (there_then was e) es

-- the touches of a type that began empty, and in which no id comes back that was lost
pub record AreTouches (h : List Entry) : Type 0 where
  pub fit : FitsFrom (λ _. false) h
  pub lost_for_good : (i j k q : ℕ) → i ≤ j → j ≤ k → there_at h i q ≡ true → there_at h j q ≡ false → there_at h k q ≡ false
