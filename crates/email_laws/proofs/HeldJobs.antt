-- The jobs of updates and destroys of Emails select a folder at first, if at all, and one that is held.
use Rattle.std.proofs.Common.{◌≡◌, ◌==◌, ℕ, Bool, true, false, cond, List, [], ◌∷◌, ◌++◌, Option, Some, None, Result, Ok, Err, refl, sym, ◌∙◌, ap, subst}
use Rattle.std.proofs.lemmas.Bool.{eqb-true}
use Rattle.serde_json.specs.Data.{Members}
use Rattle.imap_types.specs.declared.command.Command.TheVariants as command
use Rattle.told_folder.specs.declared.message.Folder.{Folder}
use Rattle.told_folder.specs.declared.message.NumberedFolder.{NumberedFolder}
use Rattle.std.specs.Option.{option_map}
use Rattle.told_mail.specs.Mail.{Mail, folder_in, held_in}
use Rattle.mail_maps.specs.Rights.{rights_of}
use Rattle.set_jobs.specs.declared.done.SetError.{SetError}
use Rattle.set_jobs.specs.declared.done.SetError.TheVariants as why
use Rattle.set_jobs.specs.declared.job.Job.{Job}
use Rattle.set_jobs.specs.declared.step.Step.{Step}
use Rattle.set_jobs.specs.declared.step.Step.TheVariants as step
use Rattle.set_items.specs.Commands.{BeginsHeld, FirstSelectsHeld, SelectNone}
use Rattle.set_given.specs.Given.{Given, EmailFound, email_named}
use Rattle.set_patches.specs.Patches.{Patch, patch_in, wrong_properties}
use Rattle.email_checks.specs.Asked.{asked_folders, is_invalid_email_patch, is_right}
use Rattle.email_checks.specs.Steps.{EmailUpdate, after_select, is_forbidden, is_selected, moves, selects, stores, update_job, update_steps}
use Rattle.email_checks.specs.Emails as emails

-- ---- a folder that is held is held under its number

same_folder : (a b : Folder) → Some a ≡ Some b → a ≡ b
same_folder a b is = cc

number_is : (hs : List NumberedFolder) (n : ℕ) (f : Folder) → folder_in hs n ≡ Some f → f.number ≡ n
number_is [] n f is = absurd (let no : ◌≡◌ {A = Option Folder} None (Some f) = is in cc)
number_is (h ∷ hs) n f is = by (h.folder.number == n) refl (λ later. number_is hs n f later)
  where
    by : (b : Bool) → (h.folder.number == n) ≡ b → (folder_in hs n ≡ Some f → f.number ≡ n) → f.number ≡ n
    by true same rest =
        let first : folder_in (h ∷ hs) n ≡ Some h.folder =
        ap (λ (b : Bool). option_map (λ (x : NumberedFolder). x.folder) (cond b (Some h) (held_in hs n))) same in
        ap (λ (x : Folder). x.number) (sym (same_folder h.folder f (sym first ∙ is))) ∙ eqb-true h.folder.number n same
    by false other rest =
        rest (sym (ap (λ (b : Bool). option_map (λ (x : NumberedFolder). x.folder) (cond b (Some h) (held_in hs n))) other) ∙ is)

held_as : (hs : List NumberedFolder) (n : ℕ) (f : Folder) → folder_in hs n ≡ Some f → folder_in hs f.number ≡ Some f
held_as hs n f is = subst (λ (k : ℕ). folder_in hs k ≡ Some f) (sym (number_is hs n f is)) is

-- ---- steps

none_both : (xs ys : List Step) → SelectNone xs → SelectNone ys → SelectNone (xs ++ ys)
none_both [] ys none more = more
none_both (x ∷ xs) ys none more = (none.0, none_both xs ys none.1 more)

none_first : (m : Mail) (ss : List Step) → SelectNone ss → FirstSelectsHeld m ss
none_first m [] none = tt
none_first m (step.Select folder mark ∷ ss) none = absurd none.0
none_first m (step.Unselect ∷ ss) none = (tt, none.1)
none_first m (step.Change c ∷ ss) none = (tt, none.1)
none_first m (step.Delete uid ∷ ss) none = (tt, none.1)
none_first m (step.Expunge uid ∷ ss) none = (tt, none.1)
none_first m (step.List name special_use ∷ ss) none = (tt, none.1)
none_first m (step.SelectMade name ∷ ss) none = (tt, none.1)

select_held : (m : Mail) (selected : Option (List ℕ)) (f : Folder) (mark : ℕ) (ss : List Step) → folder_in m.folders f.number ≡ Some f → SelectNone ss
    → FirstSelectsHeld m (selects selected f mark ++ ss)
select_held m selected f mark ss held none =
    elim (is_selected selected f.name) as (λ b. FirstSelectsHeld m (cond b [] (step.Select f.number mark ∷ []) ++ ss)) [
      | true ↦ none_first m ss none
      | false ↦ ((f, held), none)
    ]

after_held : (m : Mail) (selected : Option (List ℕ)) (f : Folder) (mark : ℕ) (ss : List Step) → folder_in m.folders f.number ≡ Some f → SelectNone ss
    → FirstSelectsHeld m (after_select selected f mark ss)
after_held m selected f mark [] held none = tt
after_held m selected f mark (s ∷ ss) held none = select_held m selected f mark (s ∷ ss) held none

stores_none : (uid : ℕ) (add : Bool) (flags : List (List ℕ)) → SelectNone (stores uid add flags)
stores_none uid add [] = tt
stores_none uid add (f ∷ fs) = (tt, tt)

moves_none : (uid : ℕ) (f : Folder) (target : Option Folder) → SelectNone (moves uid f target)
moves_none uid f None = tt
moves_none uid f (Some target) = elim (target.number == f.number) as (λ b. SelectNone (cond b [] (step.Change (command.Move uid target.name) ∷ []))) [
  | true ↦ tt
  | false ↦ (tt, tt)
]

-- ---- jobs

-- where it is a job, it begins so
abbrev Held : Given → Result Job SetError → Type 0
Held g (Ok job) = BeginsHeld g.mail job
Held g (Err error) = Unit {0}

steps_held : (m : Mail) (selected : Option (List ℕ)) (u : EmailUpdate) → folder_in m.folders u.folder.number ≡ Some u.folder
    → FirstSelectsHeld m (update_steps selected u)
steps_held m selected u held =
    after_held m selected u.folder u.mark (stores u.uid true u.sets ++ (stores u.uid false u.takes ++ moves u.uid u.folder u.target)) held
    (none_both (stores u.uid true u.sets) (stores u.uid false u.takes ++ moves u.uid u.folder u.target) (stores_none u.uid true u.sets)
    (none_both (stores u.uid false u.takes) (moves u.uid u.folder u.target) (stores_none u.uid false u.takes) (moves_none u.uid u.folder u.target)))

unless_forbidden : (g : Given) (u : EmailUpdate) → folder_in g.mail.folders u.folder.number ≡ Some u.folder → Held g (emails.unless_forbidden g.selected u)
unless_forbidden g u held = elim (is_forbidden u) as (λ b. Held g (cond b (Err why.Forbidden) (Ok (update_job g.selected u)))) [
  | true ↦ tt
  | false ↦ steps_held g.mail g.selected u held
]

into : (g : Given) (e : EmailFound) (f : Folder) (parts : Patch) (r : Result ℕ SetError) → folder_in g.mail.folders f.number ≡ Some f
    → Held g (emails.update_into g e f parts r)
into g e f parts (Err error) held = tt
into g e f parts (Ok n) held = unless_forbidden g (emails.update_of e f parts (folder_in g.mail.folders n)) held

unless_wrong : (g : Given) (ps : List (List ℕ)) (r : Result Job SetError) → Held g r → Held g (emails.unless_wrong ps r)
unless_wrong g [] r so = so
unless_wrong g (p ∷ ps) r so = tt

updated_in : (g : Given) (ms : Members) (e : EmailFound) (f : Folder) → folder_in g.mail.folders f.number ≡ Some f → Held g (emails.update_in g ms e f)
updated_in g ms e f held = elim (is_invalid_email_patch ms) as (λ b. Held g (cond b (Err why.InvalidPatch) (emails.update_valid g e f (patch_in ms)))) [
  | true ↦ tt
  | false ↦ unless_wrong g (wrong_properties (is_right g) (patch_in ms)) (emails.update_right g e f (patch_in ms))
      (into g e f (patch_in ms) (emails.one_folder (asked_folders g (patch_in ms) (f.number ∷ []))) held)
]

updated_found : (g : Given) (ms : Members) (e : EmailFound) (n : ℕ) (f : Option Folder) → folder_in g.mail.folders n ≡ f → Held g (emails.update_found g ms e f)
updated_found g ms e n None is = tt
updated_found g ms e n (Some f) is = updated_in g ms e f (held_as g.mail.folders n f is)

updated_as : (g : Given) (ms : Members) (e : Option EmailFound) → Held g (emails.update_email_as g ms e)
updated_as g ms None = tt
updated_as g ms (Some e) = updated_found g ms e e.placed.folder (folder_in g.mail.folders e.placed.folder) refl

destroyed_in : (g : Given) (e : EmailFound) (f : Folder) → folder_in g.mail.folders f.number ≡ Some f → Held g (emails.destroy_in g.selected e f)
destroyed_in g e f held = elim (rights_of f).may_remove_items as (λ b. Held g (cond b (Ok (emails.destroy_job g.selected e f)) (Err why.Forbidden))) [
  | true ↦ select_held g.mail g.selected f e.mark (step.Delete e.placed.message.uid ∷ step.Expunge e.placed.message.uid ∷ []) held (tt, (tt, tt))
  | false ↦ tt
]

destroyed_found : (g : Given) (e : EmailFound) (n : ℕ) (f : Option Folder) → folder_in g.mail.folders n ≡ f → Held g (emails.destroy_found g e f)
destroyed_found g e n None is = tt
destroyed_found g e n (Some f) is = destroyed_in g e f (held_as g.mail.folders n f is)

destroyed_as : (g : Given) (e : Option EmailFound) → Held g (emails.destroy_email_as g e)
destroyed_as g None = tt
destroyed_as g (Some e) = destroyed_found g e e.placed.folder (folder_in g.mail.folders e.placed.folder) refl

-- an item's job begins so
pub updates_held : (g : Given) (text : List ℕ) (ms : Members) (job : Job) → emails.update_email g text ms ≡ Ok job → BeginsHeld g.mail job
updates_held g text ms job is = subst (Held g) is (updated_as g ms (email_named g text))

pub destroys_held : (g : Given) (text : List ℕ) (job : Job) → emails.destroy_email g text ≡ Ok job → BeginsHeld g.mail job
destroys_held g text job is = subst (Held g) is (destroyed_as g (email_named g text))
