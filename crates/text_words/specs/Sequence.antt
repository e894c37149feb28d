-- Texts that are units, one after another.
use Rattle.std.specs.Prelude.{◌≡◌, ◌≢◌, ℕ, List, [], ◌∷◌, ◌++◌, length}

-- The text begins with a unit, and what follows it is a text of the kind More. Is v x rest says that x, where
-- rest follows it, is a unit with the value v.
pub record Starts {V A : Type 0} (Is : V → List A → List A → Type 0) (v : V) (More : List A → Type 0) (t : List A) : Type 0 where
  pub unit : List A
  pub rest : List A
  pub whole : t ≡ unit ++ rest
  pub is : Is v unit rest
  pub more : More rest

-- the text is units with these values
abbrev pub Sequence : {V A : Type 0} → (V → List A → List A → Type 0) → List V → List A → Type 0
Sequence Is [] t = t ≡ []
Sequence Is (v ∷ vs) t = Starts Is v (Sequence Is vs) t

-- both texts begin with the same unit
pub record SameStart {V A : Type 0} (v w : V) (x y s t : List A) : Type 0 where
  pub value : v ≡ w
  pub unit : x ≡ y
  pub rest : s ≡ t

-- a text begins with one unit at most, and that has one value
pub record IsDetermined {V A : Type 0} (Is : V → List A → List A → Type 0) : Type 0 where
  pub one : (v w : V) (x y s t : List A) → x ++ s ≡ y ++ t → Is v x s → Is w y t → SameStart v w x y s t
  pub some : (v : V) (x s : List A) → Is v x s → x ≢ []

-- the text begins with a unit of n elements
pub record UnitAt {V A : Type 0} (Is : V → List A → List A → Type 0) (v : V) (n : ℕ) (t : List A) : Type 0 where
  pub unit : List A
  pub rest : List A
  pub whole : t ≡ unit ++ rest
  pub is : Is v unit rest
  pub counted : n ≡ length unit
