-- The steps of an update of an Email, and the rights that it takes (RFC 8621 sections 2 and 4.6).
use Rattle.std.specs.Prelude.{ℕ, ◌==◌, ◌&&◌, ◌||◌, Bool, true, false, not, List, [], ◌∷◌, ◌++◌, bytes_eq, codes, if◌then◌else◌, Option, Some, None}
use Rattle.std.specs.List.{list_any}
use Rattle.imap_types.specs.declared.command.Command.TheVariants as command
use Rattle.told_folder.specs.declared.message.Folder.{Folder}
use Rattle.mail_maps.specs.Rights.{rights_of}
use Rattle.set_jobs.specs.declared.done.Done.TheVariants.{Changed}
use Rattle.set_jobs.specs.declared.job.Job.{Job}
use Rattle.set_jobs.specs.declared.step.Step.{Step}
use Rattle.set_jobs.specs.declared.step.Step.TheVariants as step

-- where the message is, the flags that are to be set and to be taken, the keywords that are asked, and the folder that it is to be in
pub record EmailUpdate : Type 0 where
  pub email : ℕ
  pub mark : ℕ
  pub uid : ℕ
  pub folder : Folder
  pub sets : List (List ℕ)
  pub takes : List (List ℕ)
  pub asked : Option (List (List ℕ))
  pub target : Option Folder

-- ---- steps

abbrev pub is_selected : Option (List ℕ) → List ℕ → Bool
is_selected None name = false
is_selected (Some selected) name = bytes_eq selected name

-- SELECT of the folder, where it isn't selected
abbrev pub selects : Option (List ℕ) → Folder → ℕ → List Step
selects selected f mark = if is_selected selected f.name then [] else step.Select f.number mark ∷ []

abbrev pub stores : ℕ → Bool → List (List ℕ) → List Step
stores uid add [] = []
stores uid add (f ∷ fs) = step.Change (command.Store uid add (f ∷ fs)) ∷ []

abbrev pub moves : ℕ → Folder → Option Folder → List Step
moves uid f None = []
moves uid f (Some target) = if target.number == f.number then [] else step.Change (command.Move uid target.name) ∷ []

abbrev pub after_select : Option (List ℕ) → Folder → ℕ → List Step → List Step
after_select selected f mark [] = []
after_select selected f mark (s ∷ ss) = selects selected f mark ++ (s ∷ ss)

-- STORE of the flags that are to be set, STORE of those that are to be taken, MOVE; nothing where nothing changes
abbrev pub update_steps : Option (List ℕ) → EmailUpdate → List Step
update_steps selected u =
    after_select selected u.folder u.mark (stores u.uid true u.sets ++ (stores u.uid false u.takes ++ moves u.uid u.folder u.target))

abbrev pub update_job : Option (List ℕ) → EmailUpdate → Job
update_job selected u = record { steps = update_steps selected u; done = Changed u.email u.asked }

-- ---- rights

abbrev pub is_seen_flag : List ℕ → Bool
is_seen_flag f = bytes_eq f (codes "\\seen")

abbrev pub lacks_flag_right : Folder → List (List ℕ) → Bool
lacks_flag_right f flags =
    (list_any is_seen_flag flags && not (rights_of f).may_set_seen) || (list_any (λ k. not (is_seen_flag k)) flags && not (rights_of f).may_set_keywords)

-- nothing is moved into a folder of which no validity was told: no UID of it could be known then
abbrev pub can_be_moved_into : Folder → Bool
can_be_moved_into f = (rights_of f).may_add_items && not (f.validity == 0)

abbrev pub lacks_move_right : Folder → Option Folder → Bool
lacks_move_right f None = false
lacks_move_right f (Some target) = not (target.number == f.number) && (not (rights_of f).may_remove_items || not (can_be_moved_into target))

-- a right for what would be changed is false
abbrev pub is_forbidden : EmailUpdate → Bool
is_forbidden u = lacks_flag_right u.folder u.sets || (lacks_flag_right u.folder u.takes || lacks_move_right u.folder u.target)
