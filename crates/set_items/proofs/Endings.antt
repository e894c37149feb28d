-- Why an item ends a call.
use Rattle.std.proofs.Common.{◌≡◌, ◌≢◌, ◌++◌, ◌||◌, ◌&&◌, ℕ, ℤ, Bool, true, false, length, List, [], ◌∷◌, Option, Some, None, Result, fold, refl, sym, ◌∙◌, ap, subst}
use Rattle.std.proofs.lemmas.List.Folds.{list_any-append}
use Rattle.gate_world.specs.declared.event.Event.{Event}
use Rattle.imap_types.specs.declared.code.Code.{Code}
use Rattle.imap_types.specs.declared.command.Command.{Command}
use Rattle.imap_types.specs.declared.command.Command.TheVariants as command
use Rattle.imap_types.specs.declared.response.Status.TheVariants as status
use Rattle.told_folder.specs.declared.exchange.Exchange.{Exchange}
use Rattle.told_folder.specs.declared.message.NumberedFolder.{NumberedFolder}
use Rattle.told_mail.specs.Mail.{Mail, named, folder_number}
use Rattle.imap_exchange.specs.declared.link_end.LinkEnd.{LinkEnd}
use Rattle.imap_exchange.specs.declared.link_end.LinkEnd.TheVariants as end
use Rattle.imap_client.specs.Connecting.{is_ok}
use Rattle.imap_client.specs.LinkLife.{LinkLife, ClientState}
use Rattle.imap_client.specs.Plans.{Ran, Begun, Then, IsEnd, Finished, Failed, Broken, LifeHadEnded, Wanting, ends_torn}
use Rattle.imap_client.specs.Refusals.{refusal_end}
use Rattle.imap_client.specs.Selecting.{tells_validity}
use Rattle.imap_client.specs.declared.plan.Due.{Due}
use Rattle.imap_client.specs.declared.plan.Due.TheVariants as due
use Rattle.jmap_arguments.specs.declared.method_error.MethodError.TheVariants.{ServerPartialFail}
use Rattle.told_changes.specs.declared.landing.Landing.{Landing}
use Rattle.told_changes.specs.Landings.{told_landing}
use Rattle.told_changes.specs.Told.{told, is_changing}
use Rattle.told_changes.specs.Changes.{named_by}
use Rattle.set_jobs.specs.declared.done.Done.{Done}
use Rattle.set_jobs.specs.declared.done.Done.TheVariants.{Made, MadeMailbox}
use Rattle.set_jobs.specs.declared.step.Step.{Step}
use Rattle.set_jobs.specs.declared.step.Step.TheVariants as step
use Rattle.set_jobs.specs.declared.job.Job.{Job}
use Rattle.set_items.specs.Items.{ItemStage, Doing, Settled, Partly, Failing, ItemState, item_at, item_step, item_due, item_plan, item_start, is_change, going}
use Rattle.set_items.specs.Items.{stage_after, doing_after, obeyed, refused, changed_stage, selected_stage, made_folder, listed_stage, moved_stage, made_stage, deleted_stage}
use Rattle.set_items.specs.Items.{change_refused, refused_if, shows, is_deleted, in_selected, step_due, deleted_flag}
use Rattle.set_items.specs.Ends.{Comes, Ends, OutOfMemory, item_end, done_end, broken_end, any_change, is_cut_off}
use Rattle.set_items.specs.Causes.{Ending, ItemLife, IsLanding, FailedPartly, Torn, NoLanding, NotListed, CutOff, NotRead, LaterRefused, HasCreated, IsList, exchanges_of}
use Rattle.set_items.specs.Commands.{IsFit, MustBeObeyed}
use Rattle.set_items.specs.Talks.{DoesItem, RunsSteps, ending_of}
use Rattle.set_items.proofs.Leaving.{Knowing, Knows, knows_begun, knows_ran, must_be}
use Rattle.set_items.proofs.Staging.{item_more, change_more, OverSettled, OverPartly, over_where, ok_is, not_ok}
use Rattle.set_items.proofs.Staging.{or_true_left, or_true_right, and_true, and_both}

-- ---- whether something was changed

-- what a stage that has steps left says of the changing commands that were OK
abbrev pub Says : ItemStage → Bool → Type 0
Says (Doing s ss changed done) b = changed ≡ b
Says _ b = Unit {0}

says_going : (ss : List Step) (changed : Bool) (done : Done) (b : Bool) → changed ≡ b → Says (going ss changed done) b
says_going [] changed done b e = tt
says_going (s ∷ ss) changed done b e = e

says_selected : (ss : List Step) (changed : Bool) (done : Done) (b told_it shows_it : Bool) → changed ≡ b → Says (selected_stage ss changed done told_it shows_it) b
says_selected ss changed done b true true e = says_going ss changed done b e
says_selected ss changed done b true false e = tt
says_selected ss changed done b false s e = tt

says_moved : (ss : List Step) (changed : Bool) (done : Done) (b : Bool) (o : Option Landing) → changed ≡ b → Says (moved_stage ss changed done o) b
says_moved ss changed done b None e = tt
says_moved ss changed done b (Some l) e = says_going ss changed done b e

says_made : (ss : List Step) (changed : Bool) (mark size : ℕ) (b : Bool) (o : Option Landing) → changed ≡ b → Says (made_stage ss changed mark size o) b
says_made ss changed mark size b None e = tt
says_made ss changed mark size b (Some l) e = says_going ss changed (Made mark size) b e

says_changed : (c : Command) (ss : List Step) (changed : Bool) (done : Done) (before : Mail) (x : Exchange) (b : Bool) → changed ≡ b
    → Says (changed_stage c ss changed done before x) b
says_changed (command.Move uid name) ss changed done before x b e = says_moved ss changed done b (told_landing before x) e
says_changed (command.Append name flags date message) ss changed done before x b e = says_made ss changed before.next_mark (length message) b (told_landing before x) e
says_changed _ ss changed done before x b e = says_going ss changed done b e

says_deleted : (ss : List Step) (changed : Bool) (done : Done) (b is : Bool) → changed ≡ b → Says (deleted_stage ss changed done is) b
says_deleted ss changed done b true e = says_going ss changed done b e
says_deleted ss changed done b false e = tt

says_listed : (ss : List Step) (changed : Bool) (done : Done) (b : Bool) (o : Option NumberedFolder) → changed ≡ b → Says (listed_stage ss changed done o) b
says_listed ss true done b None e = tt
says_listed ss false done b None e = tt
says_listed ss true done b (Some h) e = says_going ss true done b e
says_listed ss false done b (Some h) e = says_going ss false done b e

says_folder : (ss : List Step) (changed : Bool) (b told_it : Bool) (o : Option NumberedFolder) → changed ≡ b → Says (made_folder ss changed told_it o) b
says_folder ss changed b told_it None e = tt
says_folder ss changed b true (Some h) e = says_going ss changed (MadeMailbox (folder_number h)) b e
says_folder ss changed b false (Some h) e = tt

says_obeyed : (s : Step) (ss : List Step) (changed : Bool) (done : Done) (before : Mail) (x : Exchange) (after : Mail) (b : Bool) → changed ≡ b
    → Says (obeyed s ss changed done before x after) b
says_obeyed (step.Select folder mark) ss changed done before x after b e = says_selected ss changed done b (tells_validity x.responses) (shows after mark) e
says_obeyed step.Unselect ss changed done before x after b e = says_going ss changed done b e
says_obeyed (step.Change c) ss changed done before x after b e = says_changed c ss changed done before x b e
says_obeyed (step.Delete uid) ss changed done before x after b e =
    says_deleted ss changed done b (is_deleted (in_selected after (named_by after x.selected) uid) uid x.responses) e
says_obeyed (step.Expunge uid) ss changed done before x after b e = says_going ss changed done b e
says_obeyed (step.List name special_use) ss changed done before x after b e = says_listed ss changed done b (named after.folders name) e
says_obeyed (step.SelectMade name) ss changed done before x after b e = says_folder ss changed b (tells_validity x.responses) (named after.folders name) e

says_change_refused : (changed : Bool) (c : Code) (b : Bool) → Says (change_refused changed c) b
says_change_refused true c b = tt
says_change_refused false c b = tt

says_refused_if : (k changed : Bool) (c : Code) (b : Bool) → Says (refused_if k changed c) b
says_refused_if true changed c b = says_change_refused changed c b
says_refused_if false changed c b = tt

says_refused : (s : Step) (ss : List Step) (changed : Bool) (done : Done) (x : Exchange) (b : Bool) → changed ≡ b → Says (refused s ss changed done x) b
says_refused (step.Change c) ss changed done x b e = says_refused_if (is_changing c) changed x.code b
says_refused (step.Delete uid) ss changed done x b e = says_change_refused changed x.code b
says_refused (step.Expunge uid) ss changed done x b e = says_going ss changed done b e
says_refused (step.Select folder mark) ss changed done x b e = tt
says_refused step.Unselect ss changed done x b e = tt
says_refused (step.List name special_use) ss changed done x b e = tt
says_refused (step.SelectMade name) ss changed done x b e = tt

or_nil : (v : Bool) → (v || false) ≡ v
or_nil true = refl
or_nil false = refl

says_doing : (k : Bool) (s : Step) (ss : List Step) (changed : Bool) (done : Done) (before : Mail) (x : Exchange) (after : Mail) (b : Bool) → changed ≡ b
    → Says (doing_after k s ss changed done before x after) (b || ((k && is_changing x.command) || false))
says_doing true s ss changed done before x after b e =
    let v : Bool = is_changing x.command in
    says_obeyed s ss (changed || v) done before x after (b || (v || false)) (ap (λ d. d || v) e ∙ ap (λ w. b || w) (sym (or_nil v)))
says_doing false s ss changed done before x after b e = says_refused s ss changed done x (b || false) (e ∙ sym (or_nil b))

pub says_after : (stage : ItemStage) (before : Mail) (x : Exchange) (after : Mail) (b : Bool) → Says stage b
    → Says (stage_after stage before x after) (b || (is_change x || false))
says_after (Doing s ss changed done) before x after b e = says_doing (is_ok x.status) s ss changed done before x after b e
says_after (Settled done) before x after b e = tt
says_after Partly before x after b e = tt
says_after (Failing w) before x after b e = tt

-- a stage that has steps left says whether one of the exchanges changed something
says_ran : (s : ItemState) {life after : LinkLife} {xs : List Exchange} {events : List Event} → Says s.stage false → Ran (item_plan s) life xs after events
    → Says (item_at s xs).stage (any_change xs)
says_ran s e Begun = e
says_ran s e (Then {heard = heard} next ran) =
    let x : Exchange = next.exchange in
    let so : Says (item_at s heard).stage (any_change heard) = says_ran s e ran in
    let step_is : Says (item_step (item_at s heard) x).stage (any_change heard || (is_change x || false)) =
    says_after (item_at s heard).stage (item_at s heard).mail x (told (item_at s heard).mail x) (any_change heard) so in
    subst (λ (b : Bool). Says (item_at s (heard ++ x ∷ [])).stage b) (sym (change_more heard x))
    (subst (λ (t : ItemState). Says t.stage (any_change heard || (is_change x || false))) (sym (item_more s heard x)) step_is)

-- ---- why an item failed in part, by its last exchange

data IsPartial (heard : List Exchange) (b : Bool) (before : Mail) (x : Exchange) (after : Mail) : Type 0 where
  ByLanding : IsLanding x.command → is_change x ≡ true → told_landing before x ≡ None → IsPartial heard b before x after
  ByList : (name : List ℕ) → HasCreated name heard → IsList x.command → x.status ≡ status.Ok → named after.folders name ≡ None → IsPartial heard b before x after
  ByRefusal : b ≡ true → MustBeObeyed x.command → x.status ≢ status.Ok → IsPartial heard b before x after

pub sent_is : (c d : Command) → due.Send c ≡ due.Send d → c ≡ d
sent_is c d e = ap sent' e
  where
    sent' : Due → Command
    sent' (due.Send c) = c
    sent' _ = command.Capability

pub going_not_partly : (ss : List Step) (changed : Bool) (done : Done) → going ss changed done ≡ Partly → ⊥
going_not_partly [] changed done e = absurd (cc)
going_not_partly (s ∷ ss) changed done e = absurd (cc)

changes_ok : (c : Command) (x : Exchange) → c ≡ x.command → is_changing c ≡ true → is_ok x.status ≡ true → is_change x ≡ true
changes_ok c x same is ok = and_true (is_ok x.status) (is_changing x.command) ok (ap is_changing (sym same) ∙ is)

partial_moved : (heard : List Exchange) (uid : ℕ) (name : List ℕ) (ss : List Step) (changed : Bool) (done : Done) (before : Mail) (x : Exchange) (after : Mail) (b : Bool) (o : Option Landing)
    → told_landing before x ≡ o → command.Move uid name ≡ x.command → is_ok x.status ≡ true → moved_stage ss changed done o ≡ Partly → IsPartial heard b before x after
partial_moved heard uid name ss changed done before x after b None is same ok e =
    ByLanding (subst IsLanding same tt) (changes_ok (command.Move uid name) x same refl ok) is
partial_moved heard uid name ss changed done before x after b (Some l) is same ok e = absurd (going_not_partly ss changed done e)

partial_made : (heard : List Exchange) (name : List ℕ) (flags : List (List ℕ)) (date : ℤ) (message : List ℕ) (ss : List Step) (changed : Bool) (before : Mail) (x : Exchange) (after : Mail)
    (b : Bool) (o : Option Landing) → told_landing before x ≡ o → command.Append name flags date message ≡ x.command → is_ok x.status ≡ true
    → made_stage ss changed before.next_mark (length message) o ≡ Partly → IsPartial heard b before x after
partial_made heard name flags date message ss changed before x after b None is same ok e =
    ByLanding (subst IsLanding same tt) (changes_ok (command.Append name flags date message) x same refl ok) is
partial_made heard name flags date message ss changed before x after b (Some l) is same ok e =
    absurd (going_not_partly ss changed (Made before.next_mark (length message)) e)

partial_changed : (heard : List Exchange) (c : Command) (ss : List Step) (changed : Bool) (done : Done) (before : Mail) (x : Exchange) (after : Mail) (b : Bool) → c ≡ x.command
    → is_ok x.status ≡ true → changed_stage c ss changed done before x ≡ Partly → IsPartial heard b before x after
partial_changed heard (command.Move uid name) ss changed done before x after b same ok e =
    partial_moved heard uid name ss changed done before x after b (told_landing before x) refl same ok e
partial_changed heard (command.Append name flags date message) ss changed done before x after b same ok e =
    partial_made heard name flags date message ss changed before x after b (told_landing before x) refl same ok e
partial_changed heard _ ss changed done before x after b same ok e = absurd (going_not_partly ss changed done e)

not_partial_selected : (ss : List Step) (changed : Bool) (done : Done) (told_it shows_it : Bool) → selected_stage ss changed done told_it shows_it ≡ Partly → ⊥
not_partial_selected ss changed done true true e = going_not_partly ss changed done e
not_partial_selected ss changed done true false e = absurd (cc)
not_partial_selected ss changed done false s e = absurd (cc)

not_partial_deleted : (ss : List Step) (changed : Bool) (done : Done) (is : Bool) → deleted_stage ss changed done is ≡ Partly → ⊥
not_partial_deleted ss changed done true e = going_not_partly ss changed done e
not_partial_deleted ss changed done false e = absurd (cc)

not_partial_folder : (ss : List Step) (changed told_it : Bool) (o : Option NumberedFolder) → made_folder ss changed told_it o ≡ Partly → ⊥
not_partial_folder ss changed told_it None e = absurd (cc)
not_partial_folder ss changed true (Some h) e = going_not_partly ss changed (MadeMailbox (folder_number h)) e
not_partial_folder ss changed false (Some h) e = absurd (cc)

partial_listed : (heard : List Exchange) (name : List ℕ) (ss : List Step) (changed : Bool) (done : Done) (before : Mail) (x : Exchange) (after : Mail) (b : Bool) (o : Option NumberedFolder)
    → named after.folders name ≡ o → IsList x.command → is_ok x.status ≡ true → HasCreated name heard
    → listed_stage ss changed done o ≡ Partly → IsPartial heard b before x after
partial_listed heard name ss true done before x after b None is same ok made e = ByList name made same (ok_is x.status ok) is
partial_listed heard name ss false done before x after b None is same ok was e = absurd (cc)
partial_listed heard name ss true done before x after b (Some h) is same ok was e = absurd (going_not_partly ss true done e)
partial_listed heard name ss false done before x after b (Some h) is same ok was e = absurd (going_not_partly ss false done e)

partial_obeyed : (heard : List Exchange) (s : Step) (ss : List Step) (changed : Bool) (done : Done) (before : Mail) (x : Exchange) (after : Mail) (b : Bool)
    → Knowing heard (s ∷ ss) → step_due before s ≡ due.Send x.command → changed ≡ b → is_ok x.status ≡ true → obeyed s ss (changed || is_changing x.command) done before x after ≡ Partly → IsPartial heard b before x after
partial_obeyed heard (step.Select folder mark) ss changed done before x after b k asked says ok e =
    absurd (not_partial_selected ss (changed || is_changing x.command) done (tells_validity x.responses) (shows after mark) e)
partial_obeyed heard step.Unselect ss changed done before x after b k asked says ok e = absurd (going_not_partly ss (changed || is_changing x.command) done e)
partial_obeyed heard (step.Change c) ss changed done before x after b k asked says ok e = partial_changed heard c ss (changed || is_changing x.command) done before x after b (sent_is c x.command asked) ok e
partial_obeyed heard (step.Delete uid) ss changed done before x after b k asked says ok e =
    absurd (not_partial_deleted ss (changed || is_changing x.command) done (is_deleted (in_selected after (named_by after x.selected) uid) uid x.responses) e)
partial_obeyed heard (step.Expunge uid) ss changed done before x after b k asked says ok e = absurd (going_not_partly ss (changed || is_changing x.command) done e)
partial_obeyed heard (step.List name special_use) ss changed done before x after b k asked says ok e =
    partial_listed heard name ss (changed || is_changing x.command) done before x after b (named after.folders name) refl (subst IsList (sent_is (command.List special_use) x.command asked) tt) ok
    (k.created name k.fits.0) e
partial_obeyed heard (step.SelectMade name) ss changed done before x after b k asked says ok e =
    absurd (not_partial_folder ss (changed || is_changing x.command) (tells_validity x.responses) (named after.folders name) e)

partial_change_refused : (heard : List Exchange) (changed : Bool) (code : Code) (before : Mail) (x : Exchange) (after : Mail) (b : Bool) → changed ≡ b → MustBeObeyed x.command
    → is_ok x.status ≡ false → change_refused changed code ≡ Partly → IsPartial heard b before x after
partial_change_refused heard true code before x after b says is fails e = ByRefusal (sym says) is (not_ok x.status fails)
partial_change_refused heard false code before x after b says is fails e = absurd (cc)

partial_refused_if : (heard : List Exchange) (k changed : Bool) (c : Command) (before : Mail) (x : Exchange) (after : Mail) (b : Bool) → MustBeObeyed c → is_changing c ≡ k → c ≡ x.command → changed ≡ b
    → is_ok x.status ≡ false → refused_if k changed x.code ≡ Partly → IsPartial heard b before x after
partial_refused_if heard true changed c before x after b must is same says fails e =
    partial_change_refused heard changed x.code before x after b says (subst MustBeObeyed same must) fails e
partial_refused_if heard false changed c before x after b must is same says fails e = absurd (cc)

partial_refused : (heard : List Exchange) (s : Step) (ss : List Step) (changed : Bool) (done : Done) (before : Mail) (x : Exchange) (after : Mail) (b : Bool)
    → Knowing heard (s ∷ ss) → step_due before s ≡ due.Send x.command → changed ≡ b → is_ok x.status ≡ false → refused s ss changed done x ≡ Partly → IsPartial heard b before x after
partial_refused heard (step.Change c) ss changed done before x after b k asked says fails e =
    partial_refused_if heard (is_changing c) changed c before x after b (must_be c k.made k.fits.0) refl (sent_is c x.command asked) says fails e
partial_refused heard (step.Delete uid) ss changed done before x after b k asked says fails e =
    partial_change_refused heard changed x.code before x after b says (subst MustBeObeyed (sent_is (command.Store uid true (deleted_flag ∷ [])) x.command asked) tt) fails e
partial_refused heard (step.Expunge uid) ss changed done before x after b k asked says fails e = absurd (going_not_partly ss changed done e)
partial_refused heard (step.Select folder mark) ss changed done before x after b k asked says fails e = absurd (cc)
partial_refused heard step.Unselect ss changed done before x after b k asked says fails e = absurd (cc)
partial_refused heard (step.List name special_use) ss changed done before x after b k asked says fails e = absurd (cc)
partial_refused heard (step.SelectMade name) ss changed done before x after b k asked says fails e = absurd (cc)

partial_doing : (heard : List Exchange) (ok : Bool) (s : Step) (ss : List Step) (changed : Bool) (done : Done) (before : Mail) (x : Exchange) (after : Mail) (b : Bool) → Knowing heard (s ∷ ss) → is_ok x.status ≡ ok
    → step_due before s ≡ due.Send x.command → changed ≡ b → doing_after ok s ss changed done before x after ≡ Partly → IsPartial heard b before x after
partial_doing heard true s ss changed done before x after b k ok asked says e =
    partial_obeyed heard s ss changed done before x after b k asked says ok e
partial_doing heard false s ss changed done before x after b k fails asked says e = partial_refused heard s ss changed done before x after b k asked says fails e

partial_after : (heard : List Exchange) (stage : ItemStage) (before : Mail) (x : Exchange) (after : Mail) (b : Bool) → Knows heard stage → item_due stage before ≡ due.Send x.command → Says stage b
    → stage_after stage before x after ≡ Partly → IsPartial heard b before x after
partial_after heard (Doing s ss changed done) before x after b k asked says e =
    partial_doing heard (is_ok x.status) s ss changed done before x after b k refl asked says e
partial_after heard (Settled done) before x after b k asked says e = absurd (cc)
partial_after heard Partly before x after b k asked says e = absurd (cc)
partial_after heard (Failing w) before x after b k asked says e = absurd (cc)

-- ---- an item that is done, and failed in part

-- the item began so, after these exchanges of the call, and ended with these
abbrev pub ended : List Exchange → ItemState → List Exchange → ItemLife → Bool → Ending
ended call s xs life torn = record { before = call; mail = s.mail; own = xs; due = item_plan s xs; life = life; torn = torn }

-- the mail of an item is what its exchanges told
pub item_mail : (s : ItemState) (xs : List Exchange) → (item_at s xs).mail ≡ fold told s.mail xs
item_mail s [] = refl
item_mail s (x ∷ xs) = item_mail (item_step s x) xs

by_last : (call : List Exchange) (s : ItemState) (heard : List Exchange) (x : Exchange) (lives : ItemLife) (torn : Bool)
    → IsPartial heard (any_change heard) (item_at s heard).mail x (told (item_at s heard).mail x)
    → FailedPartly (ended call s (heard ++ x ∷ []) lives torn)
by_last call s heard x lives torn (ByLanding lands is none) =
    NoLanding (record { earlier = heard; last = x; own_is = refl }) lands is (subst (λ (m : Mail). told_landing m x ≡ None) (item_mail s heard) none)
by_last call s heard x lives torn (ByList name made is ok none) = NotListed (record { earlier = heard; last = x; own_is = refl }) name made is ok
    (subst (λ (m : Mail). named m.folders name ≡ None) (ap (λ (t : ItemState). t.mail) (sym (item_more s heard x)) ∙ item_mail s (heard ++ x ∷ [])) none)
by_last call s heard x lives torn (ByRefusal was is fails) = LaterRefused (record { earlier = heard; last = x; own_is = refl }) was is fails

partly_done : (call : List Exchange) (s : ItemState) {life after : LinkLife} {xs : List Exchange} {events : List Event} (lives : ItemLife) (torn : Bool)
    → Knows [] s.stage → Says s.stage false → (s.stage ≡ Partly → ⊥) → Ran (item_plan s) life xs after events → (item_at s xs).stage ≡ Partly
    → FailedPartly (ended call s xs lives torn)
partly_done call s lives torn k says begun Begun is = absurd (begun is)
partly_done call s lives torn k says begun (Then {heard = heard} next ran) is =
    let x : Exchange = next.exchange in
    let asked : item_due (item_at s heard).stage (item_at s heard).mail ≡ due.Send x.command = next.asked ∙ ap due.Send (sym next.completes.command_is) in
    let last : (item_step (item_at s heard) x).stage ≡ Partly = subst (λ (t : ItemState). t.stage ≡ Partly) (item_more s heard x) is in
    by_last call s heard x lives torn
    (partial_after heard (item_at s heard).stage (item_at s heard).mail x (told (item_at s heard).mail x) (any_change heard) (knows_ran s k ran) asked
    (says_ran s says ran) last)

-- ---- an item whose plan ended with an error

pub broken_changed : (e : LinkEnd) (changed : Bool) → Ends ServerPartialFail ≡ broken_end e changed → changed ≡ true
broken_changed e true is = refl
broken_changed end.Lost false is = absurd (cc)
broken_changed (end.Bad at) false is = absurd (cc)
broken_changed end.Stray false is = absurd (cc)
broken_changed end.Bye false is = absurd (cc)
broken_changed end.TooMuch false is = absurd (cc)
broken_changed end.Refused false is = absurd (cc)
broken_changed end.NoQresync false is = absurd (cc)
broken_changed end.Lacks false is = absurd (cc)
broken_changed end.Memory false is = absurd (cc)

any_joined : (call xs : List Exchange) (t : Bool) → (any_change call || (any_change xs || t)) ≡ true → t ≡ false → any_change (call ++ xs) ≡ true
any_joined call xs t is none =
    list_any-append is_change call xs
    ∙ (ap (λ v. any_change call || v) (sym (or_nil (any_change xs)) ∙ ap (λ v. any_change xs || v) (sym none)) ∙ is)

cut : (call : List Exchange) (s : ItemState) (xs : List Exchange) (lives : ItemLife) (torn : Bool) (c : Command) (now : Due) → item_plan s xs ≡ now
    → now ≡ due.Send c → (any_change call || (any_change xs || is_cut_off now torn)) ≡ true
    → FailedPartly (ended call s xs lives torn)
cut call s xs lives torn c now plan_is is changed =
    let torn_is : is_cut_off now torn ≡ (is_changing c && torn) = ap (λ d. is_cut_off d torn) is in
    elim (is_cut_off now torn) as (λ t. is_cut_off now torn ≡ t → FailedPartly (ended call s xs lives torn)) [
      | true ↦ λ t. (let both = and_both (is_changing c) torn (sym torn_is ∙ t) in Torn c (plan_is ∙ is) both.0 both.1)
      | false ↦ λ t. CutOff c (any_joined call xs (is_cut_off now torn) changed t) (plan_is ∙ is)
    ] refl

partly_by : (call : List Exchange) (s : ItemState) (life after left : LinkLife) (xs : List Exchange) (so_far last : List Event) (result : Result (Unit {0}) LinkEnd) (torn : Bool)
    → Knows [] s.stage → Says s.stage false → (s.stage ≡ Partly → ⊥) → Ran (item_plan s) life xs after so_far → IsEnd (item_plan s xs) after left result last
    → Ends ServerPartialFail ≡ item_end (item_at s xs).stage result (any_change call || (any_change xs || is_cut_off (item_plan s xs) torn))
    → FailedPartly (ended call s xs (record { begun = life; reached = after; left = left; last = last }) torn)
partly_by call s life after left xs so_far last result torn k says begun ran (Finished now ok none same) ends =
    let at : ItemState = item_at s xs in
    let changed : Bool = any_change call || (any_change xs || is_cut_off (item_plan s xs) torn) in
    let done : Ends ServerPartialFail ≡ done_end at.stage = ends ∙ ap (λ (r : Result (Unit {0}) LinkEnd). item_end at.stage r changed) ok in
    elim (over_where at.stage at.mail now) [
      | OverSettled d is ↦ absurd (comes_not_ends d (sym (done ∙ ap done_end is)))
      | OverPartly is ↦ partly_done call s _ torn k says begun ran is
    ]
  where
    comes_not_ends : (d : Done) → Comes d ≡ Ends ServerPartialFail → ⊥
    comes_not_ends d e = absurd (cc)
partly_by call s life after left xs so_far last result torn k says begun ran (Failed w now is hangs same) ends =
    let at : ItemState = item_at s xs in
    let changed : Bool = any_change call || (any_change xs || is_cut_off (item_plan s xs) torn) in
    let broke : Ends ServerPartialFail ≡ broken_end (refusal_end w) changed = ends ∙ ap (λ (r : Result (Unit {0}) LinkEnd). item_end at.stage r changed) is in
    let none : is_cut_off (item_plan s xs) torn ≡ false = ap (λ d. is_cut_off d torn) now in
    NotRead w (any_joined call xs (is_cut_off (item_plan s xs) torn) (broken_changed (refusal_end w) changed broke) none) now
partly_by call s life after left xs so_far last result torn k says begun ran (Broken c e now is breaks) ends =
    let changed : Bool = any_change call || (any_change xs || is_cut_off (item_plan s xs) torn) in
    let broke : Ends ServerPartialFail ≡ broken_end e changed = ends ∙ ap (λ (r : Result (Unit {0}) LinkEnd). item_end (item_at s xs).stage r changed) is in
    cut call s xs _ torn c (item_plan s xs) refl now (broken_changed e changed broke)
partly_by call s life after left xs so_far last result torn k says begun ran (LifeHadEnded c now over is none same) ends =
    let changed : Bool = any_change call || (any_change xs || is_cut_off (item_plan s xs) torn) in
    let broke : Ends ServerPartialFail ≡ broken_end end.Lost changed = ends ∙ ap (λ (r : Result (Unit {0}) LinkEnd). item_end (item_at s xs).stage r changed) is in
    cut call s xs _ torn c (item_plan s xs) refl now (broken_changed end.Lost changed broke)
partly_by call s life after left xs so_far last result torn k says begun ran (Wanting is hangs same) ends =
    let changed : Bool = any_change call || (any_change xs || is_cut_off (item_plan s xs) torn) in
    let broke : Ends ServerPartialFail ≡ OutOfMemory = ends ∙ ap (λ (r : Result (Unit {0}) LinkEnd). item_end (item_at s xs).stage r changed) is in
    absurd (cc)

pub says_begun : (steps : List Step) (done : Done) → Says (going steps false done) false
says_begun [] done = tt
says_begun (s ∷ ss) done = refl

pub partly : (job : Job) (call : List Exchange) (before after : Mail) (life left : LinkLife) (client : ClientState) (events : List Event)
    (d : DoesItem job call before after life left client (Ends ServerPartialFail) events) → IsFit job → FailedPartly (ending_of call d.runs)
partly job call before after life left client events d fit =
    let r : RunsSteps job before life left client events = d.runs in
    partly_by call (item_start job before) life r.follows.after left r.exchanges r.follows.so_far r.follows.last r.result (ends_torn r.follows.ends)
    (knows_begun job before fit) (says_begun job.steps job.done) (going_not_partly job.steps false job.done) r.follows.ran r.follows.ends d.ends_is

-- ---- nothing was OK, so that a command was torn

last_changes : (xs earlier : List Exchange) (x : Exchange) → xs ≡ earlier ++ x ∷ [] → is_change x ≡ true → any_change xs ≡ true
last_changes xs earlier x is change =
    ap any_change is ∙ (change_more earlier x ∙ or_true_right (any_change earlier) (is_change x || false) (or_true_left (is_change x) false change))

pub earlier_changes : (xs earlier : List Exchange) (x : Exchange) → xs ≡ earlier ++ x ∷ [] → any_change earlier ≡ true → any_change xs ≡ true
earlier_changes xs earlier x is change = ap any_change is ∙ (change_more earlier x ∙ or_true_left (any_change earlier) (is_change x || false) change)

none_joined : (call xs : List Exchange) → any_change call ≡ false → any_change xs ≡ false → any_change (call ++ xs) ≡ false
none_joined call xs a b = list_any-append is_change call xs ∙ (ap (λ v. v || any_change xs) a ∙ b)

pub not_both : (v : Bool) → v ≡ false → v ≡ true → ⊥
not_both true e f = absurd (cc)
not_both false e f = absurd (cc)

-- a CREATE that was OK is a change
pub created_changes : (name : List ℕ) (xs : List Exchange) → HasCreated name xs → any_change xs ≡ true
created_changes name xs made =
    ap any_change made.there
    ∙ (list_any-append is_change made.earlier (made.exchange ∷ made.later)
    ∙ or_true_right (any_change made.earlier) (is_change made.exchange || any_change made.later)
    (or_true_left (is_change made.exchange) (any_change made.later) (and_true (is_ok made.exchange.status) (is_changing made.exchange.command)
    (ap is_ok made.is_ok) (ap is_changing made.command_is))))

torn_of : (e : Ending) → any_change e.before ≡ false → any_change e.own ≡ false → FailedPartly e → is_cut_off e.due e.torn ≡ true
torn_of e none unchanged (Torn c is changes taken) = ap (λ t. is_cut_off t e.torn) is ∙ and_true (is_changing c) e.torn changes taken
torn_of e none unchanged (NoLanding l lands is at) = absurd (not_both (any_change e.own) unchanged (last_changes e.own l.earlier l.last l.own_is is))
torn_of e none unchanged (NotListed l name made is ok at) =
    absurd (not_both (any_change e.own) unchanged (earlier_changes e.own l.earlier l.last l.own_is (created_changes name l.earlier made)))
torn_of e none unchanged (CutOff c was is) = absurd (not_both (any_change (exchanges_of e)) (none_joined e.before e.own none unchanged) was)
torn_of e none unchanged (NotRead w was is) = absurd (not_both (any_change (exchanges_of e)) (none_joined e.before e.own none unchanged) was)
torn_of e none unchanged (LaterRefused l was is fails) = absurd (not_both (any_change e.own) unchanged (earlier_changes e.own l.earlier l.last l.own_is was))

pub only_torn : (job : Job) (call : List Exchange) (before after : Mail) (life left : LinkLife) (client : ClientState) (events : List Event)
    (d : DoesItem job call before after life left client (Ends ServerPartialFail) events) → IsFit job → any_change call ≡ false
    → any_change d.runs.exchanges ≡ false → is_cut_off (item_plan (item_start job before) d.runs.exchanges) (ending_of call d.runs).torn ≡ true
only_torn job call before after life left client events d fit none unchanged =
    torn_of (ending_of call d.runs) none unchanged (partly job call before after life left client events d fit)
