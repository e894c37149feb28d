-- Paths as the code follows them, segment by segment up to a `*` over an array: for private clauses.
use Rattle.std.specs.Prelude.{◌≡◌, ◌≢◌, ℕ, ◌<◌, List, [], ◌∷◌, ◌++◌, map, length, slice_index, Bool, true, ◌==◌, if◌then◌else◌, bytes_eq, codes, is_some, Option, Some, None, option_and_then}
use Rattle.std.specs.List.{slice_split}
use Rattle.serde_json.specs.Data.{Data, Items}
use Rattle.serde_json.specs.Find.{pointer, as_array}
use Rattle.serde_json.specs.View.{view, items_view}
use Rattle.result_references.specs.References.{segments_of}
use Rattle.result_references.specs.declared.path.Reached.{Reached}
use Rattle.result_references.specs.declared.path.Reached.TheVariants.{End, Star}

abbrev pub IsPointer : List ℕ → Type 0
IsPointer path = is_some (segments_of path) ≡ true

-- the segments of a pointer
abbrev pub segments_in : List ℕ → List (List ℕ)
segments_in [] = []
segments_in (slash ∷ rest) = map (λ token. 47 ∷ token) (slice_split (λ b. b == 47) rest)

-- a `/` and a token
abbrev pub IsSegment : List ℕ → Type 0
IsSegment segment = (token : List ℕ) × (segment ≡ 47 ∷ token) × ((i : ℕ) → i < length token → slice_index token i ≢ 47)

-- the pointer begins with this segment
abbrev pub Cuts : List ℕ → List ℕ → List ℕ → Type 0
Cuts path segment behind = IsSegment segment × IsPointer behind × (path ≡ segment ++ behind) × (segments_in path ≡ segment ∷ segments_in behind)

-- where segments lead first: to a value at their end, or to a `*` over an array, with those behind it
pub data Reach : Type 0 where
  AtEnd : Data → Reach
  AtStar : Items → List (List ℕ) → Reach

abbrev pub starred : List ℕ → Data → Option Items
starred segment d = if bytes_eq segment (codes "/*") then as_array d else None

abbrev pub reached_by : List ℕ → List (List ℕ) → (Data → Option Reach) → Data → Option Items → Option Reach
reached_by segment segments rest d None = option_and_then rest (pointer segment d)
reached_by segment segments rest d (Some items) = Some (AtStar items segments)

abbrev pub reached : List (List ℕ) → Data → Option Reach
reached [] d = Some (AtEnd d)
reached (segment ∷ segments) d = reached_by segment segments (reached segments) d (starred segment d)

abbrev pub reached_data : Reached → Reach
reached_data (End value) = AtEnd (view value.now)
reached_data (Star star) = AtStar (items_view star.items.now.items) (segments_in star.behind.now)

-- behind a `*` there is less of the path, and it is a pointer
abbrev pub LeavesLess : List ℕ → Reached → Type 0
LeavesLess path (End value) = Unit {0}
LeavesLess path (Star star) = IsPointer star.behind.now × (length star.behind.now < length path)
