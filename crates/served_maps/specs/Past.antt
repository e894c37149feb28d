-- What has become of a type since its beginning: its map now, and the touches that led to it.
use Rattle.std.specs.Prelude.{◌≡◌, ◌≢◌, ℕ, ◌<◌, List, [], ◌++◌, map, Option, None}
use Rattle.change_list.specs.History.{Touch, IsHistory, map_at, entries_of}
use Rattle.change_list.specs.History as history
use Rattle.change_list.specs.Advance.{Tests, row_at, AreRows, advance}
use Rattle.change_list.specs.Kept.{Kept, IsOf}

-- the map now, by ascending number, and the touches since the beginning
pub record Past (V : Type 0) : Type 0 where
  pub now : List (ℕ × V)
  pub touches : List (Touch V)

module _ {V : Type 0} where
  abbrev pub place_now : Past V → ℕ
  place_now p = history.last_place p.touches

  -- what q has at a place
  abbrev pub had_at : Past V → ℕ → ℕ → Option V
  had_at p place q = map_at p.touches place q

  -- what q has now
  abbrev pub has_now : Past V → ℕ → Option V
  has_now p q = had_at p (place_now p) q

  -- the map now is the last one of the history
  pub record IsPast (p : Past V) : Type 0 where
    pub rows : AreRows p.now
    pub last : (q : ℕ) → row_at p.now q ≡ has_now p q
    pub history : IsHistory p.touches

  -- each id that ever was is below this number
  abbrev pub IsEverBelow : Past V → ℕ → Type 0
  IsEverBelow p next = (place q : ℕ) → had_at p place q ≢ None → q < next

  -- no id is new in these rows that was there before
  abbrev pub AreFresh : Past V → List (ℕ × V) → Type 0
  AreFresh p new = (q place : ℕ) → row_at p.now q ≡ None → row_at new q ≢ None → had_at p place q ≡ None

  -- on to the next map, by the touches of an advance
  abbrev pub gone_on : Tests V → Past V → List (ℕ × V) → Past V
  gone_on tests p new = record { now = new; touches = p.touches ++ advance tests p.now new }

abbrev pub no_past : {V : Type 0} → Past V
no_past = record { now = []; touches = [] }

-- what is served of rows
abbrev pub served : {R V : Type 0} → (R → V) → List (ℕ × R) → List (ℕ × V)
served {R} {V} serve rows = map {B = ℕ × V} (λ (e : ℕ × R). (e.0, serve e.1)) rows

-- the tests of rows by what is served of them
abbrev pub tests_of : {R V : Type 0} → (R → V) → Tests V → Tests R
tests_of serve tests = record { same = λ x y. tests.same (serve x) (serve y); counts = λ x y. tests.counts (serve x) (serve y) }

-- rows and a change list stand for what has become of a type
pub record StandsFor {R V : Type 0} (serve : R → V) (rows : List (ℕ × R)) (list : Kept) (p : Past V) : Type 0 where
  pub now : served serve rows ≡ p.now
  pub kept : IsOf list (entries_of p.touches)
  pub past : IsPast p
