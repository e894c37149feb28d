-- The flags of the keywords of one list that aren't in another.
use Rattle.std.proofs.Common.{arith, ◌≡◌, ◌⊎◌, ◌∙◌, ◌<◌, ◌++◌, ℕ, Bool, true, false, cond, not, List, [], ◌∷◌, map, length, refl, sym, ap, subst, inl, inr}
use Rattle.std.specs.List.{Contains, filter}
use Rattle.std.proofs.lemmas.List.Elements.{Contains-append_cases, Contains-append_left, Contains-append_right, Contains-push, Contains-push_cases}
use Rattle.mail_maps.specs.Keywords.{has_name}
use Rattle.email_checks.specs.Keywords.{flag_of, flags_missing}

-- ---- elements

pub contains_none : {X : Type 0} {Y : Type 0} (x : X) → Contains [] x → Y
contains_none x h = let less : h.0 < 0 = h.1 in absurd (omega (arith, less))

pub contains_cases : {X : Type 0} (y : X) (ys : List X) (x : X) → Contains (y ∷ ys) x → (y ≡ x) ⊎ Contains ys x
contains_cases y ys x h = elim (Contains-append_cases (y ∷ []) ys x h) [
  | inl one ↦ elim (Contains-push_cases [] y x one) [ inl none ↦ contains_none x none | inr is ↦ inl is ]
  | inr rest ↦ inr rest
]

pub contains_here : {X : Type 0} (x : X) (xs : List X) → Contains (x ∷ xs) x
contains_here x xs = Contains-append_left (x ∷ []) xs x (Contains-push [] x)

pub contains_there : {X : Type 0} (y : X) (xs : List X) (x : X) → Contains xs x → Contains (y ∷ xs) x
contains_there y xs x h = Contains-append_right (y ∷ []) xs x h

-- ---- flags

abbrev pub IsMissing : List (List ℕ) → List (List ℕ) → List ℕ → Type 0
IsMissing these those k = Contains these k × (has_name k those ≡ false)

abbrev pub IsFlagMissing : List (List ℕ) → List (List ℕ) → List ℕ → Type 0
IsFlagMissing these those x = (k : List ℕ) × IsMissing these those k × (x ≡ flag_of k)

-- one more keyword, which is in the other list or not
abbrev kept_by : Bool → List ℕ → List (List ℕ) → List (List ℕ)
kept_by there t rest = cond (not there) (t ∷ rest) rest

more_missing : (t : List ℕ) (ts those : List (List ℕ)) (x : List ℕ) → IsFlagMissing ts those x → IsFlagMissing (t ∷ ts) those x
more_missing t ts those x (k, is, same) = (k, (contains_there t ts k is.0, is.1), same)

first_missing : (there : Bool) (t : List ℕ) (ts those : List (List ℕ)) (x : List ℕ) → has_name t those ≡ there
    → (Contains (map flag_of (filter (λ k. not (has_name k those)) ts)) x → IsFlagMissing ts those x)
    → Contains (map flag_of (kept_by there t (filter (λ k. not (has_name k those)) ts))) x → IsFlagMissing (t ∷ ts) those x
first_missing true t ts those x is rest h = more_missing t ts those x (rest h)
first_missing false t ts those x is rest h =
    elim (contains_cases (flag_of t) (map flag_of (filter (λ k. not (has_name k those)) ts)) x h) [
      | inl same ↦ (t, (contains_here t ts, is), sym same)
      | inr later ↦ more_missing t ts those x (rest later)
    ]

-- each flag is that of a keyword that is missing
pub flags_are : (these those : List (List ℕ)) (x : List ℕ) → Contains (flags_missing these those) x → IsFlagMissing these those x
flags_are [] those x h = contains_none x h
flags_are (t ∷ ts) those x h = first_missing (has_name t those) t ts those x refl (flags_are ts those x) h

first_kept : (there : Bool) (t : List ℕ) (rest : List (List ℕ)) → there ≡ false → Contains (map flag_of (kept_by there t rest)) (flag_of t)
first_kept false t rest is = contains_here (flag_of t) (map flag_of rest)
first_kept true t rest is = absurd (let never : true ≡ false = is in cc)

later_kept : (there : Bool) (t : List ℕ) (rest : List (List ℕ)) (x : List ℕ) → Contains (map flag_of rest) x → Contains (map flag_of (kept_by there t rest)) x
later_kept false t rest x h = contains_there (flag_of t) (map flag_of rest) x h
later_kept true t rest x h = h

-- and the flag of each such keyword is there
pub flags_have : (these those : List (List ℕ)) (k : List ℕ) → Contains these k → has_name k those ≡ false → Contains (flags_missing these those) (flag_of k)
flags_have [] those k h missing = contains_none k h
flags_have (t ∷ ts) those k h missing =
    let rest : List (List ℕ) = filter (λ (j : List ℕ). not (has_name j those)) ts in
    elim (contains_cases t ts k h) [
      | inl same ↦ subst (λ (j : List ℕ). Contains (map flag_of (kept_by (has_name t those) t rest)) (flag_of j)) same
          (first_kept (has_name t those) t rest (ap (λ (j : List ℕ). has_name j those) same ∙ missing))
      | inr later ↦ later_kept (has_name t those) t rest (flag_of k) (flags_have ts those k later missing)
    ]
