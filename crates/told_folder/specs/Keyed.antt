-- Lists that ascend by a number which each element has, its key.
use Rattle.std.specs.Prelude.{ℕ, ◌<◌, ◌==◌, nat_lt, not, List, [], ◌∷◌, Option, Some, None, unwrap_or, find, filter, if◌then◌else◌}

module _ {X : Type 0} (key : X → ℕ) where
  abbrev pub AllAbove : ℕ → List X → Type 0
  AllAbove k [] = Unit {0}
  AllAbove k (x ∷ xs) = (k < key x) × AllAbove k xs

  -- each key is below those after it
  abbrev pub Ascends : List X → Type 0
  Ascends [] = Unit {0}
  Ascends (x ∷ xs) = AllAbove (key x) xs × Ascends xs

  abbrev pub with_key : ℕ → List X → Option X
  with_key k xs = find (λ x. key x == k) xs

  -- with x at its place, for the one of its key where there is one
  abbrev pub put_keyed : X → List X → List X
  put_keyed x [] = x ∷ []
  put_keyed x (y ∷ ys) = if nat_lt (key x) (key y) then x ∷ (y ∷ ys) else (if key x == key y then x ∷ ys else y ∷ put_keyed x ys)

  -- without the one of this key
  abbrev pub cut_keyed : ℕ → List X → List X
  cut_keyed k xs = filter (λ x. not (key x == k)) xs

-- the last of a list
abbrev pub last_of : {X : Type 0} → List X → Option X
last_of [] = None
last_of (x ∷ xs) = Some (unwrap_or (last_of xs) x)
