-- Lists that are cut at the first element that fails a test.
use Rattle.std.specs.Prelude.{◌≡◌, ◌≢◌, Bool, true, false, if◌then◌else◌, List, [], ◌∷◌, ◌++◌}

-- each element passes the test
abbrev pub Each : {A : Type 0} → (A → Bool) → List A → Type 0
Each p [] = Unit {0}
Each p (x ∷ t) = (p x ≡ true) × Each p t

-- the list doesn't begin with an element that passes the test
abbrev pub Stops : {A : Type 0} → (A → Bool) → List A → Type 0
Stops p [] = Unit {0}
Stops p (x ∷ t) = p x ≡ false

-- one or more elements, each of which passes the test
abbrev pub IsRun : {A : Type 0} → (A → Bool) → List A → Type 0
IsRun p t = Each p t × (t ≢ [])

-- what stands before the first element that fails the test
unfoldable pub front : {A : Type 0} → (A → Bool) → List A → List A
front p [] = []
front p (x ∷ t) = if p x then x ∷ front p t else []

-- the first element that fails the test, and what follows it
unfoldable pub back : {A : Type 0} → (A → Bool) → List A → List A
back p [] = []
back p (x ∷ t) = if p x then back p t else x ∷ t

-- a text of one kind, and then one of another
pub record Then {A : Type 0} (First Second : List A → Type 0) (t : List A) : Type 0 where
  pub front : List A
  pub back : List A
  pub whole : t ≡ front ++ back
  pub first : First front
  pub second : Second back
