-- What laws say of the steps and commands of an item.
use Rattle.std.specs.Prelude.{◌≡◌, ◌++◌, ◌+◌, ℕ, List, [], ◌∷◌, length, Option, Some, None, ℤ}
use Rattle.imap_types.specs.declared.command.Command.{Command}
use Rattle.imap_types.specs.declared.command.Command.TheVariants as command
use Rattle.imap_types.specs.declared.response.Status.TheVariants as status
use Rattle.told_folder.specs.declared.exchange.Exchange.{Exchange}
use Rattle.told_folder.specs.declared.message.Folder.{Folder}
use Rattle.told_mail.specs.Mail.{Mail, folder_in}
use Rattle.told_changes.specs.declared.landing.Landing.{Landing}
use Rattle.told_changes.specs.Landings.{told_landing}
use Rattle.set_jobs.specs.declared.done.Done.{Done}
use Rattle.set_jobs.specs.declared.done.Done.TheVariants.{Made}
use Rattle.set_jobs.specs.declared.step.Step.{Step}
use Rattle.set_jobs.specs.declared.step.Step.TheVariants as step
use Rattle.set_jobs.specs.declared.job.Job.{Job}
use Rattle.set_items.specs.Items.{ItemState, item_at}

-- ---- APPEND

abbrev pub append_count : Command → ℕ
append_count (command.Append name flags date message) = 1
append_count _ = 0

abbrev pub appends_in : List Exchange → ℕ
appends_in [] = 0
appends_in (x ∷ xs) = append_count x.command + appends_in xs

abbrev pub step_appends : Step → ℕ
step_appends (step.Change c) = append_count c
step_appends _ = 0

abbrev pub appends_of : List Step → ℕ
appends_of [] = 0
appends_of (s ∷ ss) = step_appends s + appends_of ss

abbrev pub IsNotMade : Done → Type 0
IsNotMade (Made mark size) = ⊥
IsNotMade _ = Unit {0}

-- by itself, without an APPEND, it comes to no message
abbrev pub MakesNothing : Job → Type 0
MakesNothing job = IsNotMade job.done

-- among these exchanges is an APPEND of so many octets that was answered OK, whose usable code contradicts nothing; the mark was the next one
pub record MakesBy (s : ItemState) (xs : List Exchange) (mark size : ℕ) : Type 0 where
  pub earlier : List Exchange
  pub append : Exchange
  pub later : List Exchange
  pub name : List ℕ
  pub flags : List (List ℕ)
  pub date : ℤ
  pub message : List ℕ
  pub there : Landing
  pub whole : xs ≡ earlier ++ append ∷ later
  pub is_append : append.command ≡ command.Append name flags date message
  pub is_ok : append.status ≡ status.Ok
  pub landed : told_landing (item_at s earlier).mail append ≡ Some there
  pub mark_is : mark ≡ (item_at s earlier).mail.next_mark
  pub size_is : size ≡ length message

-- ---- commands that have to be obeyed

-- a changing command other than EXPUNGE
abbrev pub MustBeObeyed : Command → Type 0
MustBeObeyed (command.Store uid add flags) = Unit {0}
MustBeObeyed (command.Move uid name) = Unit {0}
MustBeObeyed (command.Append name flags date message) = Unit {0}
MustBeObeyed (command.Create name) = Unit {0}
MustBeObeyed (command.Delete name) = Unit {0}
MustBeObeyed (command.Rename from to) = Unit {0}
MustBeObeyed (command.Subscribe name on) = Unit {0}
MustBeObeyed _ = ⊥

-- ---- jobs

-- a changing command of an item, where it made this folder before: an item makes one folder at most
abbrev pub FitsChange : Option (List ℕ) → Command → Type 0
FitsChange made (command.Create name) = made ≡ None
FitsChange made c = MustBeObeyed c

abbrev pub made_then : Option (List ℕ) → Command → Option (List ℕ)
made_then made (command.Create name) = Some name
made_then made c = made

-- what is changed has to be obeyed, and the folder that is listed, or selected by its name, was made before
abbrev pub FitsStep : Option (List ℕ) → Step → Type 0
FitsStep made (step.Change c) = FitsChange made c
FitsStep made (step.List name special_use) = made ≡ Some name
FitsStep made (step.SelectMade name) = made ≡ Some name
FitsStep made _ = Unit {0}

abbrev pub made_by : Option (List ℕ) → Step → Option (List ℕ)
made_by made (step.Change c) = made_then made c
made_by made _ = made

abbrev pub FitsAfter : Option (List ℕ) → List Step → Type 0
FitsAfter made [] = Unit {0}
FitsAfter made (s ∷ ss) = FitsStep made s × FitsAfter (made_by made s) ss

abbrev pub IsFit : Job → Type 0
IsFit job = FitsAfter None job.steps

-- a folder that is selected by its number is held
abbrev pub SelectsHeld : Mail → Step → Type 0
SelectsHeld m (step.Select folder mark) = (f : Folder) × (folder_in m.folders folder ≡ Some f)
SelectsHeld m _ = Unit {0}

abbrev pub IsNoSelect : Step → Type 0
IsNoSelect (step.Select folder mark) = ⊥
IsNoSelect _ = Unit {0}

abbrev pub SelectNone : List Step → Type 0
SelectNone [] = Unit {0}
SelectNone (s ∷ ss) = IsNoSelect s × SelectNone ss

-- the first step alone selects a folder by its number, one that is held
abbrev pub FirstSelectsHeld : Mail → List Step → Type 0
FirstSelectsHeld m [] = Unit {0}
FirstSelectsHeld m (s ∷ ss) = SelectsHeld m s × SelectNone ss

abbrev pub BeginsHeld : Mail → Job → Type 0
BeginsHeld m job = FirstSelectsHeld m job.steps
