-- The steps of items of Mailbox/set, one by one.
use Rattle.std.proofs.Common.{◌≡◌, ◌≢◌, ◌⊎◌, ◌++◌, ℕ, Bool, true, false, List, [], ◌∷◌, Option, Some, None, refl, sym, inl, inr}
use Rattle.std.specs.List.{Contains}
use Rattle.std.proofs.lemmas.List.Elements.{Contains-append_right}
use Rattle.imap_types.specs.declared.command.Command.TheVariants as command
use Rattle.set_jobs.specs.declared.step.Step.{Step}
use Rattle.set_jobs.specs.declared.step.Step.TheVariants as step
use Rattle.mailbox_checks.specs.Steps.{creates, subscribes, subscribes_anew, unselects}
use Rattle.mailbox_laws.proofs.Elements.{contains_cases, contains_here, contains_none, contains_there, only}

abbrev pub subscribe : List ℕ → Bool → Step
subscribe name on = step.Change (command.Subscribe name on)

never : {Y : Type 0} → true ≡ false → Y
never is = absurd (cc)

-- ---- SUBSCRIBE

-- it is sent of a folder whose name stays
pub subscribes_are : (name : List ℕ) (was asked : Bool) (s : Step) → Contains (subscribes name was asked) s → (s ≡ subscribe name asked) × (asked ≢ was)
subscribes_are name false false s h = contains_none s h
subscribes_are name false true s h = (only s (subscribe name true) h, (λ is. never is))
subscribes_are name true false s h = (only s (subscribe name false) h, (λ is. never (sym is)))
subscribes_are name true true s h = contains_none s h

pub subscribes_have : (name : List ℕ) (was asked : Bool) → asked ≢ was → Contains (subscribes name was asked) (subscribe name asked)
subscribes_have name false false is = absurd (is refl)
subscribes_have name false true is = contains_here (subscribe name true) []
subscribes_have name true false is = contains_here (subscribe name false) []
subscribes_have name true true is = absurd (is refl)

-- and of one that is renamed
pub anew_are : (name : List ℕ) (was asked : Bool) (s : Step) → Contains (subscribes_anew name was asked) s
    → (s ≡ subscribe name asked) × ((asked ≢ was) ⊎ (was ≡ true))
anew_are name false false s h = contains_none s h
anew_are name false true s h = (only s (subscribe name true) h, inl (λ is. never is))
anew_are name true false s h = (only s (subscribe name false) h, inr refl)
anew_are name true true s h = (only s (subscribe name true) h, inr refl)

pub anew_have : (name : List ℕ) (was asked : Bool) → (asked ≢ was) ⊎ (was ≡ true) → Contains (subscribes_anew name was asked) (subscribe name asked)
anew_have name false false (inl is) = absurd (is refl)
anew_have name false false (inr is) = never (sym is)
anew_have name false true is = contains_here (subscribe name true) []
anew_have name true false is = contains_here (subscribe name false) []
anew_have name true true is = contains_here (subscribe name true) []

-- ---- UNSELECT before one command

abbrev pub left_then : Option (List ℕ) → Step → List Step
left_then selected s = unselects selected ++ s ∷ []

pub left_are : (selected : Option (List ℕ)) (t s : Step) → Contains (left_then selected t) s → (s ≡ step.Unselect) ⊎ (s ≡ t)
left_are None t s h = inr (only s t h)
left_are (Some name) t s h = elim (contains_cases step.Unselect (t ∷ []) s h) [ inl same ↦ inl (sym same) | inr later ↦ inr (only s t later) ]

pub left_have : (selected : Option (List ℕ)) (t : Step) → Contains (left_then selected t) t
left_have selected t = Contains-append_right (unselects selected) (t ∷ []) t (contains_here t [])

-- ---- a creation

pub data IsCreateStep (name : List ℕ) (subscribed special_use : Bool) (s : Step) : Type 0 where
  Creates : s ≡ step.Change (command.Create name) → IsCreateStep name subscribed special_use s
  Subscribes : subscribed ≡ true → s ≡ subscribe name true → IsCreateStep name subscribed special_use s
  Lists : s ≡ step.List name special_use → IsCreateStep name subscribed special_use s
  Selects : s ≡ step.SelectMade name → IsCreateStep name subscribed special_use s

abbrev last_two : List ℕ → Bool → List Step
last_two name special_use = step.List name special_use ∷ step.SelectMade name ∷ []

last_are : (name : List ℕ) (subscribed special_use : Bool) (s : Step) → Contains (last_two name special_use) s → IsCreateStep name subscribed special_use s
last_are name subscribed special_use s h = elim (contains_cases (step.List name special_use) (step.SelectMade name ∷ []) s h) [
  | inl same ↦ Lists (sym same)
  | inr later ↦ Selects (only s (step.SelectMade name) later)
]

pub creates_are : (name : List ℕ) (subscribed special_use : Bool) (s : Step) → Contains (creates name subscribed special_use) s
    → IsCreateStep name subscribed special_use s
creates_are name false special_use s h = elim (contains_cases (step.Change (command.Create name)) (last_two name special_use) s h) [
  | inl same ↦ Creates (sym same)
  | inr later ↦ last_are name false special_use s later
]
creates_are name true special_use s h = elim (contains_cases (step.Change (command.Create name)) (subscribe name true ∷ last_two name special_use) s h) [
  | inl same ↦ Creates (sym same)
  | inr later ↦ elim (contains_cases (subscribe name true) (last_two name special_use) s later) [
    | inl same ↦ Subscribes refl (sym same)
    | inr last ↦ last_are name true special_use s last
  ]
]

pub creates_have : (name : List ℕ) (subscribed special_use : Bool) → Contains (creates name subscribed special_use) (step.Change (command.Create name))
creates_have name false special_use = contains_here (step.Change (command.Create name)) (last_two name special_use)
creates_have name true special_use = contains_here (step.Change (command.Create name)) (subscribe name true ∷ last_two name special_use)

pub creates_subscribe : (name : List ℕ) (subscribed special_use : Bool) → subscribed ≡ true → Contains (creates name subscribed special_use) (subscribe name true)
creates_subscribe name false special_use is = never (sym is)
creates_subscribe name true special_use is =
    contains_there (step.Change (command.Create name)) (subscribe name true ∷ last_two name special_use) (subscribe name true)
    (contains_here (subscribe name true) (last_two name special_use))

selects_last : (name : List ℕ) (special_use : Bool) → Contains (last_two name special_use) (step.SelectMade name)
selects_last name special_use =
    contains_there (step.List name special_use) (step.SelectMade name ∷ []) (step.SelectMade name) (contains_here (step.SelectMade name) [])

pub creates_select : (name : List ℕ) (subscribed special_use : Bool) → Contains (creates name subscribed special_use) (step.SelectMade name)
creates_select name false special_use =
    contains_there (step.Change (command.Create name)) (last_two name special_use) (step.SelectMade name) (selects_last name special_use)
creates_select name true special_use =
    contains_there (step.Change (command.Create name)) (subscribe name true ∷ last_two name special_use) (step.SelectMade name)
    (contains_there (subscribe name true) (last_two name special_use) (step.SelectMade name) (selects_last name special_use))
