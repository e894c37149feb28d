-- What is sent for the items of Mailbox/set (RFC 9051 sections 6.3.4 to 6.3.9 and 6.4.2).
use Rattle.std.specs.Prelude.{ℕ, Bool, true, false, List, [], ◌∷◌, ◌++◌, Option, Some, None}
use Rattle.imap_types.specs.declared.command.Command.TheVariants as command
use Rattle.set_jobs.specs.declared.step.Step.{Step}
use Rattle.set_jobs.specs.declared.step.Step.TheVariants as step

-- Where a folder is selected it is left first: no store need rename or delete a selected one.
abbrev pub unselects : Option (List ℕ) → List Step
unselects None = []
unselects (Some name) = step.Unselect ∷ []

-- the subscription is changed where another one is asked
abbrev pub subscribes : List ℕ → Bool → Bool → List Step
subscribes name true true = []
subscribes name false false = []
subscribes name was asked = step.Change (command.Subscribe name asked) ∷ []

-- It is said anew of a folder that was renamed: no store need carry it along with the name (RFC 9051 section 6.3.6).
abbrev pub subscribes_anew : List ℕ → Bool → Bool → List Step
subscribes_anew name false false = []
subscribes_anew name was asked = step.Change (command.Subscribe name asked) ∷ []

abbrev pub creates : List ℕ → Bool → Bool → List Step
creates name subscribed special_use =
    step.Change (command.Create name) ∷ [] ++ subscribes name false subscribed ++ step.List name special_use ∷ [] ++ step.SelectMade name ∷ []

abbrev pub renames : Option (List ℕ) → List ℕ → List ℕ → List Step
renames selected from to = unselects selected ++ step.Change (command.Rename from to) ∷ []

abbrev pub deletes : Option (List ℕ) → List ℕ → List Step
deletes selected name = unselects selected ++ step.Change (command.Delete name) ∷ []
