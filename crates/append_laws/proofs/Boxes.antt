-- An item whose steps select no folder that was made comes to no Mailbox.
use Rattle.std.proofs.Common.{arith, ◌≡◌, ◌||◌, ℕ, Bool, true, false, List, [], ◌∷◌, Option, Some, None, Contains, length, refl, subst}
use Rattle.std.proofs.lemmas.List.Elements.{Contains-append_right}
use Rattle.imap_types.specs.declared.code.Code.{Code}
use Rattle.imap_types.specs.declared.command.Command.{Command}
use Rattle.imap_types.specs.declared.command.Command.TheVariants as command
use Rattle.told_folder.specs.declared.exchange.Exchange.{Exchange}
use Rattle.told_folder.specs.declared.message.NumberedFolder.{NumberedFolder}
use Rattle.told_mail.specs.Mail.{Mail, named}
use Rattle.imap_client.specs.Connecting.{is_ok}
use Rattle.imap_client.specs.Selecting.{tells_validity}
use Rattle.told_changes.specs.Changes.{named_by}
use Rattle.told_changes.specs.Landings.{told_landing}
use Rattle.told_changes.specs.Told.{told, is_changing}
use Rattle.told_changes.specs.declared.landing.Landing.{Landing}
use Rattle.set_jobs.specs.declared.done.Done.{Done}
use Rattle.set_jobs.specs.declared.done.Done.TheVariants.{Made, MadeMailbox}
use Rattle.set_jobs.specs.declared.job.Job.{Job}
use Rattle.set_jobs.specs.declared.step.Step.{Step}
use Rattle.set_jobs.specs.declared.step.Step.TheVariants as step
use Rattle.set_items.specs.Items.{ItemState, item_at, item_start, item_step, going, stage_after, doing_after, obeyed, refused, refused_if, change_refused}
use Rattle.set_items.specs.Items.{changed_stage, selected_stage, listed_stage, moved_stage, made_stage, deleted_stage, shows, is_deleted, in_selected}
use Rattle.set_items.specs.declared.stage.ItemStage.{ItemStage}
use Rattle.set_items.specs.declared.stage.ItemStage.TheVariants.{Doing, Settled, Partly, Failing}

abbrev pub IsNoMailbox : Done → Type 0
IsNoMailbox (MadeMailbox number) = ⊥
IsNoMailbox _ = Unit {0}

-- a step that selects no folder that was made
abbrev pub IsOther : Step → Type 0
IsOther (step.SelectMade name) = ⊥
IsOther _ = Unit {0}

abbrev pub AreOther : List Step → Type 0
AreOther [] = Unit {0}
AreOther (s ∷ ss) = IsOther s × AreOther ss

-- each of them, by each
pub others : (ss : List Step) → ((s : Step) → Contains ss s → IsOther s) → AreOther ss
others [] each = tt
others (s ∷ ss) each = (each s (0, omega arith, refl), others ss (λ t there. each t (Contains-append_right (s ∷ []) ss t there)))

-- the steps that are left are such, and it comes to no Mailbox
abbrev Stays : ItemStage → Type 0
Stays (Doing s ss changed done) = IsOther s × AreOther ss × IsNoMailbox done
Stays (Settled done) = IsNoMailbox done
Stays Partly = Unit {0}
Stays (Failing why) = Unit {0}

going_stays : (ss : List Step) (changed : Bool) (done : Done) → AreOther ss → IsNoMailbox done → Stays (going ss changed done)
going_stays [] changed done are is = is
going_stays (s ∷ ss) changed done are is = (are.0, are.1, is)

-- ---- an OK

selected_stays : (ss : List Step) (changed : Bool) (done : Done) (told_it shows_it : Bool) → AreOther ss → IsNoMailbox done
    → Stays (selected_stage ss changed done told_it shows_it)
selected_stays ss changed done true true are is = going_stays ss changed done are is
selected_stays ss changed done true false are is = tt
selected_stays ss changed done false shows_it are is = tt

moved_stays : (ss : List Step) (changed : Bool) (done : Done) (o : Option Landing) → AreOther ss → IsNoMailbox done → Stays (moved_stage ss changed done o)
moved_stays ss changed done None are is = tt
moved_stays ss changed done (Some l) are is = going_stays ss changed done are is

made_stays : (ss : List Step) (changed : Bool) (mark size : ℕ) (o : Option Landing) → AreOther ss → Stays (made_stage ss changed mark size o)
made_stays ss changed mark size None are = tt
made_stays ss changed mark size (Some l) are = going_stays ss changed (Made mark size) are tt

changed_stays : (c : Command) (ss : List Step) (changed : Bool) (done : Done) (before : Mail) (x : Exchange) → AreOther ss → IsNoMailbox done
    → Stays (changed_stage c ss changed done before x)
changed_stays (command.Move uid name) ss changed done before x are is = moved_stays ss changed done (told_landing before x) are is
changed_stays (command.Append name flags date message) ss changed done before x are is =
    made_stays ss changed before.next_mark (length message) (told_landing before x) are
changed_stays _ ss changed done before x are is = going_stays ss changed done are is

deleted_stays : (ss : List Step) (changed : Bool) (done : Done) (deleted : Bool) → AreOther ss → IsNoMailbox done → Stays (deleted_stage ss changed done deleted)
deleted_stays ss changed done true are is = going_stays ss changed done are is
deleted_stays ss changed done false are is = tt

listed_stays : (ss : List Step) (changed : Bool) (done : Done) (o : Option NumberedFolder) → AreOther ss → IsNoMailbox done → Stays (listed_stage ss changed done o)
listed_stays ss true done None are is = tt
listed_stays ss false done None are is = tt
listed_stays ss true done (Some h) are is = going_stays ss true done are is
listed_stays ss false done (Some h) are is = going_stays ss false done are is

obeyed_stays : (s : Step) (ss : List Step) (changed : Bool) (done : Done) (before : Mail) (x : Exchange) (after : Mail) → IsOther s → AreOther ss
    → IsNoMailbox done → Stays (obeyed s ss changed done before x after)
obeyed_stays (step.Select folder mark) ss changed done before x after other are is =
    selected_stays ss changed done (tells_validity x.responses) (shows after mark) are is
obeyed_stays step.Unselect ss changed done before x after other are is = going_stays ss changed done are is
obeyed_stays (step.Change c) ss changed done before x after other are is = changed_stays c ss changed done before x are is
obeyed_stays (step.Delete uid) ss changed done before x after other are is =
    deleted_stays ss changed done (is_deleted (in_selected after (named_by after x.selected) uid) uid x.responses) are is
obeyed_stays (step.Expunge uid) ss changed done before x after other are is = going_stays ss changed done are is
obeyed_stays (step.List name special_use) ss changed done before x after other are is =
    listed_stays ss changed done (named after.folders name) are is
obeyed_stays (step.SelectMade name) ss changed done before x after other are is = absurd other

-- ---- NO or BAD

change_stays : (changed : Bool) (c : Code) → Stays (change_refused changed c)
change_stays true c = tt
change_stays false c = tt

refused_if_stays : (changing changed : Bool) (c : Code) → Stays (refused_if changing changed c)
refused_if_stays true changed c = change_stays changed c
refused_if_stays false changed c = tt

refused_stays : (s : Step) (ss : List Step) (changed : Bool) (done : Done) (x : Exchange) → AreOther ss → IsNoMailbox done → Stays (refused s ss changed done x)
refused_stays (step.Change c) ss changed done x are is = refused_if_stays (is_changing c) changed x.code
refused_stays (step.Delete uid) ss changed done x are is = change_stays changed x.code
refused_stays (step.Expunge uid) ss changed done x are is = going_stays ss changed done are is
refused_stays (step.Select folder mark) ss changed done x are is = tt
refused_stays step.Unselect ss changed done x are is = tt
refused_stays (step.List name special_use) ss changed done x are is = tt
refused_stays (step.SelectMade name) ss changed done x are is = tt

-- ---- exchanges

doing_stays : (ok : Bool) (s : Step) (ss : List Step) (changed : Bool) (done : Done) (before : Mail) (x : Exchange) (after : Mail) → IsOther s → AreOther ss
    → IsNoMailbox done → Stays (doing_after ok s ss changed done before x after)
doing_stays true s ss changed done before x after other are is = obeyed_stays s ss (changed || is_changing x.command) done before x after other are is
doing_stays false s ss changed done before x after other are is = refused_stays s ss changed done x are is

step_stays : (stage : ItemStage) (before : Mail) (x : Exchange) (after : Mail) → Stays stage → Stays (stage_after stage before x after)
step_stays (Doing s ss changed done) before x after stays = doing_stays (is_ok x.status) s ss changed done before x after stays.0 stays.1 stays.2
step_stays (Settled done) before x after stays = stays
step_stays Partly before x after stays = tt
step_stays (Failing why) before x after stays = tt

at_stays : (s : ItemState) (xs : List Exchange) → Stays s.stage → Stays (item_at s xs).stage
at_stays s [] stays = stays
at_stays s (x ∷ xs) stays = at_stays (item_step s x) xs (step_stays s.stage s.mail x (told s.mail x) stays)

-- it is settled as no Mailbox
pub no_mailbox : (job : Job) (m : Mail) (xs : List Exchange) (done : Done) → AreOther job.steps → IsNoMailbox job.done → (item_at (item_start job m) xs).stage ≡ Settled done
    → IsNoMailbox done
no_mailbox job m xs done are is settled =
    subst (λ (stage : ItemStage). Stays stage) settled (at_stays (item_start job m) xs (going_stays job.steps false job.done are is))
