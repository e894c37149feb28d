-- A result that is what a definition gives, out of memory aside.
use Rattle.std.specs.Prelude.{◌≡◌, ◌⊎◌, Result, Ok, Err}

-- What a call gave, seen by `view`, is what is meant; only the error `memory` is free.
abbrev pub Agrees : {X Y E : Type 0} → E → (X → Y) → Result X E → Result Y E → Type 0
Agrees memory view (Ok x) meant = meant ≡ Ok (view x)
Agrees memory view (Err e) meant = (e ≡ memory) ⊎ (meant ≡ Err e)

-- The same of a call that takes no memory, where no error is free.
abbrev pub IsJust : {X Y E : Type 0} → (X → Y) → Result X E → Result Y E → Type 0
IsJust view (Ok x) meant = meant ≡ Ok (view x)
IsJust view (Err e) meant = meant ≡ Err e

-- As `Agrees`, where each result that is meant may be given.
abbrev pub Meets : {X Y E : Type 0} → E → (X → Y) → Result X E → (Result Y E → Type 0) → Type 0
Meets memory view (Ok x) IsMeant = IsMeant (Ok (view x))
Meets memory view (Err e) IsMeant = (e ≡ memory) ⊎ IsMeant (Err e)

-- The refusal alone, where a result is one.
abbrev pub refusal_of : {A E : Type 0} → Result A E → Result (Unit {0}) E
refusal_of (Ok a) = Ok tt
refusal_of (Err e) = Err e
