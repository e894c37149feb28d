-- Elements of lists of steps.
use Rattle.std.proofs.Common.{arith, ◌≡◌, ◌⊎◌, ◌<◌, List, [], ◌∷◌, sym, inl, inr}
use Rattle.std.specs.List.{Contains}
use Rattle.std.proofs.lemmas.List.Elements.{Contains-append_cases, Contains-append_left, Contains-append_right, Contains-push, Contains-push_cases}

pub contains_none : {X : Type 0} {Y : Type 0} (x : X) → Contains [] x → Y
contains_none x h = let less : h.0 < 0 = h.1 in absurd (omega (arith, less))

pub contains_cases : {X : Type 0} (y : X) (ys : List X) (x : X) → Contains (y ∷ ys) x → (y ≡ x) ⊎ Contains ys x
contains_cases y ys x h = elim (Contains-append_cases (y ∷ []) ys x h) [
  | inl one ↦ elim (Contains-push_cases [] y x one) [ inl none ↦ contains_none x none | inr is ↦ inl is ]
  | inr rest ↦ inr rest
]

pub contains_here : {X : Type 0} (x : X) (xs : List X) → Contains (x ∷ xs) x
contains_here x xs = Contains-append_left (x ∷ []) xs x (Contains-push [] x)

pub contains_there : {X : Type 0} (y : X) (xs : List X) (x : X) → Contains xs x → Contains (y ∷ xs) x
contains_there y xs x h = Contains-append_right (y ∷ []) xs x h

-- what stands in a list of one element alone
pub only : {X : Type 0} (x y : X) → Contains (y ∷ []) x → x ≡ y
only x y h = elim (contains_cases y [] x h) [ inl same ↦ sym same | inr none ↦ contains_none x none ]
