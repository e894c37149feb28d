-- The steps of updates and destroys of Emails, one by one.
use Rattle.std.proofs.Common.{◌≡◌, ◌≢◌, ◌⊎◌, ◌∙◌, ◌++◌, ◌==◌, ℕ, Bool, true, false, cond, List, [], ◌∷◌, Option, Some, None, refl, sym, ap, subst, inl, inr}
use Rattle.std.specs.List.{Contains}
use Rattle.std.proofs.lemmas.List.Elements.{Contains-append_cases, Contains-append_left, Contains-append_right}
use Rattle.imap_types.specs.declared.command.Command.TheVariants as command
use Rattle.told_folder.specs.declared.message.Folder.{Folder}
use Rattle.set_jobs.specs.declared.step.Step.{Step}
use Rattle.set_jobs.specs.declared.step.Step.TheVariants as step
use Rattle.email_checks.specs.Steps.{EmailUpdate, after_select, is_selected, moves, selects, stores, update_steps}
use Rattle.email_laws.proofs.SentFlags.{contains_cases, contains_here, contains_none, contains_there}

-- what stands in a list of one step alone
only : (s t : Step) → Contains (t ∷ []) s → s ≡ t
only s t h = elim (contains_cases t [] s h) [ inl same ↦ sym same | inr none ↦ contains_none s none ]

-- ---- SELECT

select_by : (there : Bool) (f : Folder) (mark : ℕ) (s : Step) → Contains (cond there [] (step.Select f.number mark ∷ [])) s
    → (there ≡ false) × (s ≡ step.Select f.number mark)
select_by true f mark s h = contains_none s h
select_by false f mark s h = (refl, only s (step.Select f.number mark) h)

pub selects_are : (selected : Option (List ℕ)) (f : Folder) (mark : ℕ) (s : Step) → Contains (selects selected f mark) s
    → (is_selected selected f.name ≡ false) × (s ≡ step.Select f.number mark)
selects_are selected f mark s h = select_by (is_selected selected f.name) f mark s h

pub select_has : (there : Bool) (f : Folder) (mark : ℕ) → there ≡ false → Contains (cond there [] (step.Select f.number mark ∷ [])) (step.Select f.number mark)
select_has false f mark is = contains_here (step.Select f.number mark) []
select_has true f mark is = absurd (let never : true ≡ false = is in cc)

-- a SELECT, or one of the others
pub after_cases : (selected : Option (List ℕ)) (f : Folder) (mark : ℕ) (ss : List Step) (s : Step) → Contains (after_select selected f mark ss) s
    → (s ≡ step.Select f.number mark) ⊎ Contains ss s
after_cases selected f mark [] s h = contains_none s h
after_cases selected f mark (t ∷ ts) s h = elim (Contains-append_cases (selects selected f mark) (t ∷ ts) s h) [
  | inl first ↦ inl (selects_are selected f mark s first).1
  | inr later ↦ inr later
]

pub after_has : (selected : Option (List ℕ)) (f : Folder) (mark : ℕ) (ss : List Step) (s : Step) → Contains ss s → Contains (after_select selected f mark ss) s
after_has selected f mark [] s h = h
after_has selected f mark (t ∷ ts) s h = Contains-append_right (selects selected f mark) (t ∷ ts) s h

-- ---- STORE and MOVE

pub stores_are : (uid : ℕ) (add : Bool) (flags : List (List ℕ)) (s : Step) → Contains (stores uid add flags) s
    → (flags ≢ []) × (s ≡ step.Change (command.Store uid add flags))
stores_are uid add [] s h = contains_none s h
stores_are uid add (f ∷ fs) s h = ((λ is. cc), only s (step.Change (command.Store uid add (f ∷ fs))) h)

pub stores_have : (uid : ℕ) (add : Bool) (flags : List (List ℕ)) (x : List ℕ) → Contains flags x
    → Contains (stores uid add flags) (step.Change (command.Store uid add flags))
stores_have uid add [] x h = contains_none x h
stores_have uid add (f ∷ fs) x h = contains_here (step.Change (command.Store uid add (f ∷ fs))) []

move_by : (here : Bool) (uid : ℕ) (target : Folder) (s : Step) → Contains (cond here [] (step.Change (command.Move uid target.name) ∷ [])) s
    → (here ≡ false) × (s ≡ step.Change (command.Move uid target.name))
move_by true uid target s h = contains_none s h
move_by false uid target s h = (refl, only s (step.Change (command.Move uid target.name)) h)

pub moves_are : (uid : ℕ) (f : Folder) (target : Option Folder) (s : Step) → Contains (moves uid f target) s
    → (t : Folder) × (target ≡ Some t) × ((t.number == f.number) ≡ false) × (s ≡ step.Change (command.Move uid t.name))
moves_are uid f None s h = contains_none s h
moves_are uid f (Some t) s h = let is = move_by (t.number == f.number) uid t s h in (t, refl, is.0, is.1)

move_has : (here : Bool) (uid : ℕ) (target : Folder) → here ≡ false
    → Contains (cond here [] (step.Change (command.Move uid target.name) ∷ [])) (step.Change (command.Move uid target.name))
move_has false uid target is = contains_here (step.Change (command.Move uid target.name)) []
move_has true uid target is = absurd (let never : true ≡ false = is in cc)

pub moves_have : (uid : ℕ) (f : Folder) (target : Option Folder) (t : Folder) → target ≡ Some t → (t.number == f.number) ≡ false
    → Contains (moves uid f target) (step.Change (command.Move uid t.name))
moves_have uid f target t is other =
    subst (λ (o : Option Folder). Contains (moves uid f o) (step.Change (command.Move uid t.name))) (sym is) (move_has (t.number == f.number) uid t other)

-- ---- the steps of an update

pub data IsUpdateStep (u : EmailUpdate) (s : Step) : Type 0 where
  Selects : s ≡ step.Select u.folder.number u.mark → IsUpdateStep u s
  Sets : u.sets ≢ [] → s ≡ step.Change (command.Store u.uid true u.sets) → IsUpdateStep u s
  Takes : u.takes ≢ [] → s ≡ step.Change (command.Store u.uid false u.takes) → IsUpdateStep u s
  MovesTo : (t : Folder) → u.target ≡ Some t → (t.number == u.folder.number) ≡ false → s ≡ step.Change (command.Move u.uid t.name) → IsUpdateStep u s

set_step : (u : EmailUpdate) (s : Step) → (u.sets ≢ []) × (s ≡ step.Change (command.Store u.uid true u.sets)) → IsUpdateStep u s
set_step u s (some, is) = Sets some is

take_step : (u : EmailUpdate) (s : Step) → (u.takes ≢ []) × (s ≡ step.Change (command.Store u.uid false u.takes)) → IsUpdateStep u s
take_step u s (some, is) = Takes some is

move_step : (u : EmailUpdate) (s : Step)
    → (t : Folder) × (u.target ≡ Some t) × ((t.number == u.folder.number) ≡ false) × (s ≡ step.Change (command.Move u.uid t.name)) → IsUpdateStep u s
move_step u s (t, is, other, same) = MovesTo t is other same

pub update_are : (selected : Option (List ℕ)) (u : EmailUpdate) (s : Step) → Contains (update_steps selected u) s → IsUpdateStep u s
update_are selected u s h =
    elim (after_cases selected u.folder u.mark (stores u.uid true u.sets ++ (stores u.uid false u.takes ++ moves u.uid u.folder u.target)) s h) [
      | inl select ↦ Selects select
      | inr changes ↦ elim (Contains-append_cases (stores u.uid true u.sets) (stores u.uid false u.takes ++ moves u.uid u.folder u.target) s changes) [
        | inl sets ↦ set_step u s (stores_are u.uid true u.sets s sets)
        | inr later ↦ elim (Contains-append_cases (stores u.uid false u.takes) (moves u.uid u.folder u.target) s later) [
          | inl takes ↦ take_step u s (stores_are u.uid false u.takes s takes)
          | inr moved ↦ move_step u s (moves_are u.uid u.folder u.target s moved)
        ]
      ]
    ]

module _ (selected : Option (List ℕ)) (u : EmailUpdate) where
  changes_have : (s : Step) → Contains (stores u.uid true u.sets ++ (stores u.uid false u.takes ++ moves u.uid u.folder u.target)) s
      → Contains (update_steps selected u) s
  changes_have s h = after_has selected u.folder u.mark (stores u.uid true u.sets ++ (stores u.uid false u.takes ++ moves u.uid u.folder u.target)) s h

  pub sets_have : (x : List ℕ) → Contains u.sets x → Contains (update_steps selected u) (step.Change (command.Store u.uid true u.sets))
  sets_have x h =
      changes_have (step.Change (command.Store u.uid true u.sets))
      (Contains-append_left (stores u.uid true u.sets) (stores u.uid false u.takes ++ moves u.uid u.folder u.target) (step.Change (command.Store u.uid true u.sets))
      (stores_have u.uid true u.sets x h))

  pub takes_have : (x : List ℕ) → Contains u.takes x → Contains (update_steps selected u) (step.Change (command.Store u.uid false u.takes))
  takes_have x h =
      changes_have (step.Change (command.Store u.uid false u.takes))
      (Contains-append_right (stores u.uid true u.sets) (stores u.uid false u.takes ++ moves u.uid u.folder u.target) (step.Change (command.Store u.uid false u.takes))
      (Contains-append_left (stores u.uid false u.takes) (moves u.uid u.folder u.target) (step.Change (command.Store u.uid false u.takes))
      (stores_have u.uid false u.takes x h)))

  pub move_in : (t : Folder) → u.target ≡ Some t → (t.number == u.folder.number) ≡ false
      → Contains (update_steps selected u) (step.Change (command.Move u.uid t.name))
  move_in t is other =
      changes_have (step.Change (command.Move u.uid t.name))
      (Contains-append_right (stores u.uid true u.sets) (stores u.uid false u.takes ++ moves u.uid u.folder u.target) (step.Change (command.Move u.uid t.name))
      (Contains-append_right (stores u.uid false u.takes) (moves u.uid u.folder u.target) (step.Change (command.Move u.uid t.name))
      (moves_have u.uid u.folder u.target t is other)))
