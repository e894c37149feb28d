-- A history of values of any type: the touches that lead from each of its maps to the next.
use Rattle.std.specs.Prelude.{◌≡◌, ◌≢◌, ℕ, ◌+◌, ◌≤◌, ◌<◌, ◌==◌, List, [], ◌∷◌, Bool, if◌then◌else◌, take, length, Option, Some, None}
use Rattle.change_list.specs.declared.entries.Kind.{Kind}
use Rattle.change_list.specs.declared.entries.Kind.TheVariants.{Added, Changed, Removed}
use Rattle.change_list.specs.declared.entries.Entry.{Entry}

-- what the later of two neighbouring maps has at the one id where they differ, and whether they differ in counts alone
pub record Touch (V : Type 0) : Type 0 where
  pub id : ℕ
  pub value : Option V
  pub counts_only : Bool

module _ {V : Type 0} where
  -- what q has after these touches, where it had was before them
  abbrev pub value_after : Option V → List (Touch V) → ℕ → Option V
  value_after was [] q = was
  value_after was (t ∷ ts) q = value_after (if t.id == q then t.value else was) ts q

  -- the map at a place: the first is empty
  abbrev pub map_at : List (Touch V) → ℕ → ℕ → Option V
  map_at h place q = value_after None (take place h) q

  -- the place of the last map
  abbrev pub last_place : List (Touch V) → ℕ
  last_place h = length h

  -- the last map
  abbrev pub map_now : List (Touch V) → ℕ → Option V
  map_now h q = map_at h (last_place h) q

  -- the map after a touch
  abbrev pub map_then : (ℕ → Option V) → Touch V → ℕ → Option V
  map_then was t q = if t.id == q then t.value else was q

  -- each touch gives its id something else than it had
  abbrev pub DifferFrom : (ℕ → Option V) → List (Touch V) → Type 0
  DifferFrom was [] = Unit {0}
  DifferFrom was (t ∷ ts) = (was t.id ≢ t.value) × DifferFrom (map_then was t) ts

  -- neighbours differ at the one id that is touched, and no later map has an id again that was lost
  pub record IsHistory (h : List (Touch V)) : Type 0 where
    pub differ : DifferFrom (λ _. None) h
    pub lost_for_good : (i j k q : ℕ) → i ≤ j → j ≤ k → map_at h i q ≢ None → map_at h j q ≡ None → map_at h k q ≡ None

  -- neighbours among the maps s to k differ at q
  abbrev pub IsTouched : List (Touch V) → ℕ → ℕ → ℕ → Type 0
  IsTouched h s k q = (i : ℕ) × (s ≤ i) × (i < k) × (map_at h i q ≢ map_at h (i + 1) q)

  abbrev pub kind_of : Option V → Option V → Kind
  kind_of was None = Removed
  kind_of None (Some v) = Added
  kind_of (Some u) (Some v) = Changed

  abbrev pub entry_of : Option V → Touch V → Entry
  entry_of was t = record { id = t.id; kind = kind_of was t.value; counts_only = t.counts_only }

  abbrev pub entries_from : (ℕ → Option V) → List (Touch V) → List Entry
  entries_from was [] = []
  entries_from was (t ∷ ts) = entry_of (was t.id) t ∷ entries_from (map_then was t) ts

  -- the touches with their kinds
  abbrev pub entries_of : List (Touch V) → List Entry
  entries_of h = entries_from (λ _. None) h

  -- ---- the same in maps

  -- two maps differ at one id
  pub record DifferAtOne (m n : ℕ → Option V) : Type 0 where
    pub id : ℕ
    pub differ : m id ≢ n id
    pub others : (q : ℕ) → q ≢ id → m q ≡ n q

  -- the maps M 0 to M n of a type: the first is empty, neighbours differ at one id, and none has an id again that was lost
  pub record AreMaps (M : ℕ → ℕ → Option V) (n : ℕ) : Type 0 where
    pub first_empty : (q : ℕ) → M 0 q ≡ None
    pub neighbours : (i : ℕ) → i < n → DifferAtOne (M i) (M (i + 1))
    pub lost_for_good : (i j k q : ℕ) → i ≤ j → j ≤ k → k ≤ n → M i q ≢ None → M j q ≡ None → M k q ≡ None

  -- the maps of the history are these
  pub record HasMaps (h : List (Touch V)) (M : ℕ → ℕ → Option V) (n : ℕ) : Type 0 where
    pub history : IsHistory h
    pub places : length h ≡ n
    pub maps : (i q : ℕ) → i ≤ n → map_at h i q ≡ M i q
