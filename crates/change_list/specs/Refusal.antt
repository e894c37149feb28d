-- When a question about a place is refused.
use Rattle.std.specs.Prelude.{◌≡◌, ℕ, ◌<◌, Result, Ok, Err}
use Rattle.change_list.specs.Kept.{Kept, IsKeptPlace, front_of}
use Rattle.change_list.specs.declared.error.SinceError.{SinceError}
use Rattle.change_list.specs.declared.error.SinceError.TheVariants.{BeforeFront, AfterEnd, Memory}

-- a refusal exactly below the front and past the last place, with its number
abbrev pub RefusesOutside : {X : Type 0} → Kept → ℕ → Result X SinceError → Type 0
RefusesOutside k s (Ok x) = IsKeptPlace k s
RefusesOutside k s (Err (BeforeFront front)) = (front ≡ front_of k.place) × (s < front)
RefusesOutside k s (Err (AfterEnd place)) = (place ≡ k.place) × (place < s)
RefusesOutside k s (Err Memory) = IsKeptPlace k s
