-- Random words, and moments of a clock.
use Rattle.std.specs.Prelude.{◌≡◌, ◌-◌, ◌^◌, ℕ, ℤ, pos, min, List, Option, Some, None, IfSome}
use Rattle.std.specs.Int.{w64, from_be_bytes}

-- The word is octets that were drawn, the first the highest; where none were, any word.
abbrev pub IsDrawnWord : (Option (List ℕ) → Type 0) → ℕ → Type 0
IsDrawnWord draws word = (drawn : Option (List ℕ)) × draws drawn × IfSome drawn (λ octets. word ≡ from_be_bytes w64 octets)

-- the moment of seconds that are shown
abbrev pub moment_of : Option ℕ → ℤ
moment_of None = pos 0
moment_of (Some seconds) = pos (min seconds (2 ^ 63 - 1))

-- The moment is of seconds that were shown.
abbrev pub IsShownMoment : (Option ℕ → Type 0) → ℤ → Type 0
IsShownMoment shows moment = (shown : Option ℕ) × shows shown × (moment ≡ moment_of shown)
