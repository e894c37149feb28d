-- Why a plan fails by what the store answered: a command that reads was refused, or a SELECT told no UIDVALIDITY; or something was changed before.
use Rattle.std.proofs.Common.{◌≡◌, ◌≢◌, ◌⊎◌, ◌||◌, ◌++◌, ℕ, Bool, true, false, length, List, [], ◌∷◌, Option, Some, None, refl, sym, ◌∙◌, ap, subst, inl, inr}
use Rattle.gate_world.specs.declared.event.Event.{Event}
use Rattle.imap_types.specs.declared.code.Code.{Code}
use Rattle.imap_types.specs.declared.command.Command.{Command}
use Rattle.imap_types.specs.declared.command.Command.TheVariants as command
use Rattle.imap_types.specs.declared.response.Status.TheVariants as status
use Rattle.told_folder.specs.declared.exchange.Exchange.{Exchange}
use Rattle.told_folder.specs.declared.message.Folder.{Folder}
use Rattle.told_mail.specs.Mail.{Mail, folder_in, named}
use Rattle.imap_client.specs.Bodies.{select_due}
use Rattle.imap_client.specs.Connecting.{is_ok}
use Rattle.imap_client.specs.LinkLife.{LinkLife}
use Rattle.imap_client.specs.Plans.{Ran, Begun, Then}
use Rattle.imap_client.specs.Selecting.{known_folder, tells_validity}
use Rattle.imap_client.specs.declared.plan.Due.TheVariants as due
use Rattle.imap_client.specs.declared.plan.Refusal.{Refusal}
use Rattle.told_changes.specs.declared.landing.Landing.{Landing}
use Rattle.told_changes.specs.Landings.{told_landing}
use Rattle.told_changes.specs.Told.{told, is_changing}
use Rattle.told_changes.specs.Changes.{named_by}
use Rattle.set_jobs.specs.declared.done.Done.{Done}
use Rattle.set_jobs.specs.declared.done.Done.TheVariants.{Made}
use Rattle.set_jobs.specs.declared.job.Job.{Job}
use Rattle.set_jobs.specs.declared.step.Step.{Step}
use Rattle.set_jobs.specs.declared.step.Step.TheVariants as step
use Rattle.set_items.specs.Items.{ItemStage, Doing, Settled, Partly, Failing, ItemState, item_at, item_step, item_due, item_plan, item_start, going}
use Rattle.set_items.specs.Items.{stage_after, doing_after, obeyed, refused, refused_if, change_refused, changed_stage, selected_stage, moved_stage, made_stage, deleted_stage}
use Rattle.set_items.specs.Items.{shows, is_deleted, in_selected, step_due, folder_of}
use Rattle.set_items.specs.Ends.{any_change}
use Rattle.set_items.specs.Causes.{IsSelect, ItemLife, StoreFailed, ReadRefused, NoValidity}
use Rattle.set_items.specs.Commands.{BeginsHeld, FirstSelectsHeld, FitsAfter, IsFit, SelectNone, SelectsHeld}
use Rattle.set_items.proofs.Endings.{created_changes, earlier_changes, ended, not_both, sent_is}
use Rattle.set_items.proofs.Leaving.{Knowing, Knows, Left, knows_after, knows_ran, left_going, left_obeyed}
use Rattle.set_items.proofs.Staging.{item_more, not_ok, ok_is}

-- ---- commands that select

pub selected_is : (f : Option Folder) (c : Command) → select_due f ≡ due.Send c → IsSelect c
selected_is None c e = absurd (cc)
selected_is (Some f) c e = subst IsSelect (sent_is (command.Select f.name (known_folder f)) c e) tt

selects_read : (c : Command) → IsSelect c → is_changing c ≡ false
selects_read (command.Select name known) is = refl
selects_read _ is = absurd is

-- ---- the answer that a plan fails by

data IsFailing (heard : List Exchange) (x : Exchange) : Type 0 where
  ByRefusal : is_changing x.command ≡ false → x.status ≢ status.Ok → IsFailing heard x
  BySelect : IsSelect x.command → x.status ≡ status.Ok → tells_validity x.responses ≡ false → IsFailing heard x
  ByChange : any_change heard ≡ true → IsFailing heard x

going_not_failing : (ss : List Step) (changed : Bool) (done : Done) (w : Refusal) → going ss changed done ≡ Failing w → ⊥
going_not_failing [] changed done w e = absurd (cc)
going_not_failing (s ∷ ss) changed done w e = absurd (cc)

moved_not_failing : (ss : List Step) (changed : Bool) (done : Done) (o : Option Landing) (w : Refusal) → moved_stage ss changed done o ≡ Failing w → ⊥
moved_not_failing ss changed done None w e = absurd (cc)
moved_not_failing ss changed done (Some l) w e = going_not_failing ss changed done w e

made_not_failing : (ss : List Step) (changed : Bool) (mark size : ℕ) (o : Option Landing) (w : Refusal) → made_stage ss changed mark size o ≡ Failing w → ⊥
made_not_failing ss changed mark size None w e = absurd (cc)
made_not_failing ss changed mark size (Some l) w e = going_not_failing ss changed (Made mark size) w e

changed_not_failing : (c : Command) (ss : List Step) (changed : Bool) (done : Done) (before : Mail) (x : Exchange) (w : Refusal)
    → changed_stage c ss changed done before x ≡ Failing w → ⊥
changed_not_failing (command.Move uid name) ss changed done before x w e = moved_not_failing ss changed done (told_landing before x) w e
changed_not_failing (command.Append name flags date message) ss changed done before x w e =
    made_not_failing ss changed before.next_mark (length message) (told_landing before x) w e
changed_not_failing _ ss changed done before x w e = going_not_failing ss changed done w e

deleted_not_failing : (ss : List Step) (changed : Bool) (done : Done) (is : Bool) (w : Refusal) → deleted_stage ss changed done is ≡ Failing w → ⊥
deleted_not_failing ss changed done true w e = going_not_failing ss changed done w e
deleted_not_failing ss changed done false w e = absurd (cc)

refusal_not_failing : (changed : Bool) (c : Code) (w : Refusal) → change_refused changed c ≡ Failing w → ⊥
refusal_not_failing true c w e = absurd (cc)
refusal_not_failing false c w e = absurd (cc)

failing_selected : (heard : List Exchange) (ss : List Step) (changed : Bool) (done : Done) (x : Exchange) (w : Refusal) (tells shown : Bool) → tells_validity x.responses ≡ tells
    → IsSelect x.command → x.status ≡ status.Ok → selected_stage ss changed done tells shown ≡ Failing w → IsFailing heard x
failing_selected heard ss changed done x w true true is selects ok e = absurd (going_not_failing ss changed done w e)
failing_selected heard ss changed done x w true false is selects ok e = absurd (cc)
failing_selected heard ss changed done x w false shown is selects ok e = BySelect selects ok is

failing_obeyed : (heard : List Exchange) (s : Step) (ss : List Step) (changed : Bool) (done : Done) (before : Mail) (x : Exchange) (after : Mail) (w : Refusal)
    → Knowing heard (s ∷ ss) → step_due before s ≡ due.Send x.command → is_ok x.status ≡ true → obeyed s ss changed done before x after ≡ Failing w → IsFailing heard x
failing_obeyed heard (step.Select folder mark) ss changed done before x after w k asked ok e =
    failing_selected heard ss changed done x w (tells_validity x.responses) (shows after mark) refl (selected_is (folder_in before.folders folder) x.command asked)
    (ok_is x.status ok) e
failing_obeyed heard step.Unselect ss changed done before x after w k asked ok e = absurd (going_not_failing ss changed done w e)
failing_obeyed heard (step.Change c) ss changed done before x after w k asked ok e = absurd (changed_not_failing c ss changed done before x w e)
failing_obeyed heard (step.Delete uid) ss changed done before x after w k asked ok e =
    absurd (deleted_not_failing ss changed done (is_deleted (in_selected after (named_by after x.selected) uid) uid x.responses) w e)
failing_obeyed heard (step.Expunge uid) ss changed done before x after w k asked ok e = absurd (going_not_failing ss changed done w e)
failing_obeyed heard (step.List name special_use) ss changed done before x after w k asked ok e = ByChange (created_changes name heard (k.created name k.fits.0))
failing_obeyed heard (step.SelectMade name) ss changed done before x after w k asked ok e = ByChange (created_changes name heard (k.created name k.fits.0))

failing_if : (heard : List Exchange) (k changed : Bool) (c : Command) (x : Exchange) (w : Refusal) → is_changing c ≡ k → c ≡ x.command → is_ok x.status ≡ false
    → refused_if k changed x.code ≡ Failing w → IsFailing heard x
failing_if heard true changed c x w is same fails e = absurd (refusal_not_failing changed x.code w e)
failing_if heard false changed c x w is same fails e = ByRefusal (ap is_changing (sym same) ∙ is) (not_ok x.status fails)

failing_refused : (heard : List Exchange) (s : Step) (ss : List Step) (changed : Bool) (done : Done) (before : Mail) (x : Exchange) (w : Refusal)
    → step_due before s ≡ due.Send x.command → is_ok x.status ≡ false → refused s ss changed done x ≡ Failing w → IsFailing heard x
failing_refused heard (step.Change c) ss changed done before x w asked fails e =
    failing_if heard (is_changing c) changed c x w refl (sent_is c x.command asked) fails e
failing_refused heard (step.Delete uid) ss changed done before x w asked fails e = absurd (refusal_not_failing changed x.code w e)
failing_refused heard (step.Expunge uid) ss changed done before x w asked fails e = absurd (going_not_failing ss changed done w e)
failing_refused heard (step.Select folder mark) ss changed done before x w asked fails e =
    ByRefusal (selects_read x.command (selected_is (folder_in before.folders folder) x.command asked)) (not_ok x.status fails)
failing_refused heard step.Unselect ss changed done before x w asked fails e =
    ByRefusal (ap is_changing (sym (sent_is command.Unselect x.command asked))) (not_ok x.status fails)
failing_refused heard (step.List name special_use) ss changed done before x w asked fails e =
    ByRefusal (ap is_changing (sym (sent_is (command.List special_use) x.command asked))) (not_ok x.status fails)
failing_refused heard (step.SelectMade name) ss changed done before x w asked fails e =
    ByRefusal (selects_read x.command (selected_is (folder_of (named before.folders name)) x.command asked)) (not_ok x.status fails)

failing_doing : (ok : Bool) (heard : List Exchange) (s : Step) (ss : List Step) (changed : Bool) (done : Done) (before : Mail) (x : Exchange) (after : Mail) (w : Refusal)
    → Knowing heard (s ∷ ss) → step_due before s ≡ due.Send x.command → is_ok x.status ≡ ok → doing_after ok s ss changed done before x after ≡ Failing w → IsFailing heard x
failing_doing true heard s ss changed done before x after w k asked is e =
    failing_obeyed heard s ss (changed || is_changing x.command) done before x after w k asked is e
failing_doing false heard s ss changed done before x after w k asked is e = failing_refused heard s ss changed done before x w asked is e

failing_after : (heard : List Exchange) (stage : ItemStage) (before : Mail) (x : Exchange) (after : Mail) (w : Refusal) → Knows heard stage
    → item_due stage before ≡ due.Send x.command → stage_after stage before x after ≡ Failing w → IsFailing heard x
failing_after heard (Doing s ss changed done) before x after w k asked e =
    failing_doing (is_ok x.status) heard s ss changed done before x after w k asked refl e
failing_after heard (Settled done) before x after w k asked e = absurd (cc)
failing_after heard Partly before x after w k asked e = absurd (cc)
failing_after heard (Failing v) before x after w k asked e = absurd (cc)

-- ---- no step but the first selects a folder by its number

-- none of those that are left
abbrev NoneSelects : ItemStage → Type 0
NoneSelects (Doing s ss changed done) = SelectNone (s ∷ ss)
NoneSelects _ = Unit {0}

-- none of those after the one that is due
abbrev pub NoLaterSelects : ItemStage → Type 0
NoLaterSelects (Doing s ss changed done) = SelectNone ss
NoLaterSelects _ = Unit {0}

no_later : (stage : ItemStage) → NoneSelects stage → NoLaterSelects stage
no_later (Doing s ss changed done) none = none.1
no_later (Settled done) none = tt
no_later Partly none = tt
no_later (Failing w) none = tt

none_left : (ss : List Step) (stage : ItemStage) → Left ss stage → SelectNone ss → NoneSelects stage
none_left ss (Doing t ts changed done) left none = subst SelectNone left none
none_left ss (Settled done) left none = tt
none_left ss Partly left none = tt
none_left ss (Failing w) left none = tt

left_refusal : (ss : List Step) (changed : Bool) (c : Code) → Left ss (change_refused changed c)
left_refusal ss true c = tt
left_refusal ss false c = tt

left_if : (ss : List Step) (k changed : Bool) (c : Code) → Left ss (refused_if k changed c)
left_if ss true changed c = left_refusal ss changed c
left_if ss false changed c = tt

left_refused : (s : Step) (ss : List Step) (changed : Bool) (done : Done) (x : Exchange) → Left ss (refused s ss changed done x)
left_refused (step.Change c) ss changed done x = left_if ss (is_changing c) changed x.code
left_refused (step.Delete uid) ss changed done x = left_refusal ss changed x.code
left_refused (step.Expunge uid) ss changed done x = left_going ss changed done
left_refused (step.Select folder mark) ss changed done x = tt
left_refused step.Unselect ss changed done x = tt
left_refused (step.List name special_use) ss changed done x = tt
left_refused (step.SelectMade name) ss changed done x = tt

left_doing : (ok : Bool) (s : Step) (ss : List Step) (changed : Bool) (done : Done) (before : Mail) (x : Exchange) (after : Mail)
    → Left ss (doing_after ok s ss changed done before x after)
left_doing true s ss changed done before x after = left_obeyed s ss (changed || is_changing x.command) done before x after
left_doing false s ss changed done before x after = left_refused s ss changed done x

none_after : (stage : ItemStage) (before : Mail) (x : Exchange) (after : Mail) → NoLaterSelects stage → NoneSelects (stage_after stage before x after)
none_after (Doing s ss changed done) before x after none =
    none_left ss (doing_after (is_ok x.status) s ss changed done before x after) (left_doing (is_ok x.status) s ss changed done before x after) none
none_after (Settled done) before x after none = tt
none_after Partly before x after none = tt
none_after (Failing w) before x after none = tt

later_ran : (s : ItemState) → NoLaterSelects s.stage → {life after : LinkLife} {heard : List Exchange} {events : List Event} → Ran (item_plan s) life heard after events
    → NoLaterSelects (item_at s heard).stage
later_ran s none Begun = none
later_ran s none (Then {heard = heard} next ran) =
    let x : Exchange = next.exchange in
    let at : ItemState = item_at s heard in
    subst (λ (t : ItemState). NoLaterSelects t.stage) (sym (item_more s heard x))
    (no_later (stage_after at.stage at.mail x (told at.mail x)) (none_after at.stage at.mail x (told at.mail x) (later_ran s none ran)))

-- ---- where a plan fails

-- a step that can't be asked selects a folder by the name that was made
step_fails : (xs : List Exchange) (t : Step) (ts : List Step) (m : Mail) (w : Refusal) → step_due m t ≡ due.Fails w → Knowing xs (t ∷ ts) → SelectNone (t ∷ ts)
    → any_change xs ≡ true
step_fails xs (step.Select folder mark) ts m w now k none = absurd none.0
step_fails xs step.Unselect ts m w now k none = absurd (cc)
step_fails xs (step.Change c) ts m w now k none = absurd (cc)
step_fails xs (step.Delete uid) ts m w now k none = absurd (cc)
step_fails xs (step.Expunge uid) ts m w now k none = absurd (cc)
step_fails xs (step.List name special_use) ts m w now k none = absurd (cc)
step_fails xs (step.SelectMade name) ts m w now k none = created_changes name xs (k.created name k.fits.0)

stage_fails : (xs : List Exchange) (stage : ItemStage) (m : Mail) (w : Refusal) → item_due stage m ≡ due.Fails w → Knows xs stage → NoneSelects stage
    → ((v : Refusal) × (stage ≡ Failing v)) ⊎ (any_change xs ≡ true)
stage_fails xs (Doing t ts changed done) m w now k none = inr (step_fails xs t ts m w now k none)
stage_fails xs (Settled done) m w now k none = absurd (cc)
stage_fails xs Partly m w now k none = absurd (cc)
stage_fails xs (Failing v) m w now k none = inl (v, refl)

select_held : (f : Option Folder) (held : Folder) (w : Refusal) → f ≡ Some held → select_due f ≡ due.Fails w → ⊥
select_held None held w is now = absurd (cc)
select_held (Some f) held w is now = absurd (cc)

first_fails : (s : Step) (ss : List Step) (m : Mail) (w : Refusal) → step_due m s ≡ due.Fails w → FitsAfter None (s ∷ ss) → SelectsHeld m s → ⊥
first_fails (step.Select folder mark) ss m w now fits held = select_held (folder_in m.folders folder) held.0 w held.1 now
first_fails step.Unselect ss m w now fits held = absurd (cc)
first_fails (step.Change c) ss m w now fits held = absurd (cc)
first_fails (step.Delete uid) ss m w now fits held = absurd (cc)
first_fails (step.Expunge uid) ss m w now fits held = absurd (cc)
first_fails (step.List name special_use) ss m w now fits held = absurd (cc)
first_fails (step.SelectMade name) ss m w now fits held = let no : ◌≡◌ {A = Option (List ℕ)} None (Some name) = fits.0 in absurd (cc)

-- an item whose folder is held can be asked at first
pub begins : (job : Job) (m : Mail) (w : Refusal) → IsFit job → BeginsHeld m job → item_due (item_start job m).stage m ≡ due.Fails w → ⊥
begins job m w fit held now = by job.steps fit held now
  where
    by : (ss : List Step) → FitsAfter None ss → FirstSelectsHeld m ss → item_due (going ss false job.done) m ≡ due.Fails w → ⊥
    by [] fits held now = absurd (cc)
    by (s ∷ ss) fits held now = first_fails s ss m w now fits held.0

pub begins_later : (job : Job) (m : Mail) → BeginsHeld m job → NoLaterSelects (item_start job m).stage
begins_later job m held = by job.steps held
  where
    by : (ss : List Step) → FirstSelectsHeld m ss → NoLaterSelects (going ss false job.done)
    by [] held = tt
    by (s ∷ ss) held = held.1

by_failing : (call : List Exchange) (s : ItemState) (heard : List Exchange) (x : Exchange) (lives : ItemLife) (torn : Bool) → any_change (heard ++ x ∷ []) ≡ false
    → IsFailing heard x → StoreFailed (ended call s (heard ++ x ∷ []) lives torn)
by_failing call s heard x lives torn unchanged (ByRefusal reads fails) = ReadRefused (record { earlier = heard; last = x; own_is = refl }) reads fails
by_failing call s heard x lives torn unchanged (BySelect selects ok none) = NoValidity (record { earlier = heard; last = x; own_is = refl }) selects ok none
by_failing call s heard x lives torn unchanged (ByChange was) =
    absurd (not_both (any_change (heard ++ x ∷ [])) unchanged (earlier_changes (heard ++ x ∷ []) heard x refl was))

-- A plan that fails after no change fails by its last exchange.
pub failed_by : (call : List Exchange) (s : ItemState) (lives : ItemLife) (torn : Bool) {life after : LinkLife} {xs : List Exchange} {events : List Event} (w : Refusal) → Knows [] s.stage
    → (item_due s.stage s.mail ≡ due.Fails w → ⊥) → NoLaterSelects s.stage → Ran (item_plan s) life xs after events → item_plan s xs ≡ due.Fails w
    → any_change xs ≡ false → StoreFailed (ended call s xs lives torn)
failed_by call s lives torn w k first none Begun now unchanged = absurd (first now)
failed_by call s lives torn w k first none (Then {heard = heard} next ran) now unchanged =
    let x : Exchange = next.exchange in
    let at : ItemState = item_at s heard in
    let asked : item_due at.stage at.mail ≡ due.Send x.command = next.asked ∙ ap due.Send (sym next.completes.command_is) in
    let knows : Knows heard at.stage = knows_ran s k ran in
    let fails : item_due (item_step at x).stage (item_step at x).mail ≡ due.Fails w =
    ap (λ (t : ItemState). item_due t.stage t.mail) (sym (item_more s heard x)) ∙ now in
    elim (stage_fails (heard ++ x ∷ []) (item_step at x).stage (item_step at x).mail w fails (knows_after at.stage at.mail x (told at.mail x) heard asked knows)
    (none_after at.stage at.mail x (told at.mail x) (later_ran s none ran))) [
      | inl failing ↦ by_failing call s heard x lives torn unchanged (failing_after heard at.stage at.mail x (told at.mail x) failing.0 knows asked failing.1)
      | inr was ↦ absurd (not_both (any_change (heard ++ x ∷ [])) unchanged was)
    ]
