-- Causes of each error end a call with it; in a life that had ended no command is cut off.
use Rattle.std.proofs.Common.{◌≡◌, ◌⊎◌, ◌||◌, ◌&&◌, ◌++◌, ℕ, Bool, true, false, length, List, [], ◌∷◌, Option, Some, None, Result, Err, fold, refl, sym, ◌∙◌, ap, subst, inl, inr}
use Rattle.std.proofs.lemmas.List.Folds.{list_any-append}
use Rattle.gate_world.specs.declared.event.Event.{Event}
use Rattle.imap_types.specs.declared.command.Command.{Command}
use Rattle.imap_types.specs.declared.command.Command.TheVariants as command
use Rattle.told_folder.specs.declared.exchange.Exchange.{Exchange}
use Rattle.told_folder.specs.declared.message.Folder.{Folder}
use Rattle.told_mail.specs.Mail.{Mail, folder_in, named}
use Rattle.imap_exchange.specs.declared.link_end.LinkEnd.{LinkEnd}
use Rattle.imap_exchange.specs.declared.link_end.LinkEnd.TheVariants as end
use Rattle.imap_client.specs.Bodies.{select_due}
use Rattle.imap_client.specs.Connecting.{is_ok}
use Rattle.imap_client.specs.Selecting.{known_folder}
use Rattle.imap_client.specs.LinkLife.{LinkLife, ClientState}
use Rattle.imap_client.specs.Plans.{Planned, Ran, Begun, Then, IsEnd, Finished, Failed, Broken, LifeHadEnded, Wanting, ends_torn}
use Rattle.imap_client.specs.Refusals.{refusal_end}
use Rattle.imap_client.specs.declared.plan.Due.{Due}
use Rattle.imap_client.specs.declared.plan.Refusal.{Refusal}
use Rattle.imap_client.specs.declared.plan.Due.TheVariants as due
use Rattle.jmap_arguments.specs.declared.method_error.MethodError.TheVariants.{ServerPartialFail}
use Rattle.told_changes.specs.Landings.{told_landing}
use Rattle.told_changes.specs.Told.{told, is_changing}
use Rattle.set_jobs.specs.declared.done.Done.{Done}
use Rattle.set_jobs.specs.declared.step.Step.{Step}
use Rattle.set_jobs.specs.declared.step.Step.TheVariants as step
use Rattle.set_items.specs.Causes.{Ending, FailedPartly, Torn, NoLanding, NotListed, CutOff, NotRead, LaterRefused, HasCreated, IsLanding, IsList, exchanges_of}
use Rattle.set_items.specs.Commands.{FitsChange, IsFit, MustBeObeyed}
use Rattle.set_items.specs.Ends.{ItemEnd, Comes, Ends, OutOfMemory, any_change, is_change, is_cut_off, item_end, broken_end, done_end}
use Rattle.set_jobs.specs.declared.job.Job.{Job}
use Rattle.set_items.specs.Items.{ItemState, ItemStage, Doing, Settled, Partly, Failing, Answers, item_at, item_due, item_plan, item_start, item_step, step_due}
use Rattle.set_items.specs.Items.{stage_after, doing_after, obeyed, refused, refused_if, change_refused, changed_stage, moved_stage, made_stage, listed_stage, folder_of, deleted_flag}
use Rattle.set_items.specs.Talks.{DoesItem, RunsSteps, ending_of, has_changed}
use Rattle.set_items.proofs.Endings.{Says, broken_changed, created_changes, going_not_partly, item_mail, says_after, says_begun}
use Rattle.set_items.proofs.Leaving.{Knowing, Knows, knows_answers, knows_begun, name_is}
use Rattle.set_items.proofs.Staging.{OverSettled, OverPartly, over_where, item_more, is_not_ok, or_true_right, and_true, and_both, ran_answers}

-- ---- truth values

first_of : (a b c : Bool) → (a || (b || c)) ≡ true → b ≡ false → c ≡ false → a ≡ true
first_of true b c e f g = refl
first_of false true c e f g = absurd (cc)
first_of false false true e f g = absurd (cc)
first_of false false false e f g = absurd (cc)

and_none : (b : Bool) → (b && false) ≡ false
and_none true = refl
and_none false = refl

not_both : (b : Bool) → b ≡ false → b ≡ true → ⊥
not_both true e f = absurd (cc)
not_both false e f = absurd (cc)

-- ---- commands that aren't cut off

none_cut : (d : Due) → is_cut_off d false ≡ false
none_cut (due.Send c) = and_none (is_changing c)
none_cut due.Done = refl
none_cut (due.Fails w) = refl

-- ---- a life that had ended

-- nothing was run in it
pub none_ran : (plan : Planned) {life after : LinkLife} {xs : List Exchange} {events : List Event} → life.goes_on ≡ false → Ran plan life xs after events
    → (xs ≡ []) × (after ≡ life)
none_ran plan over Begun = (refl, refl)
none_ran plan over (Then next ran) = absurd (not_both next.before.goes_on (ap (λ (l : LinkLife). l.goes_on) (none_ran plan over ran).1 ∙ over) next.completes.on)

comes_not_ends : (d : Done) → Comes d ≡ Ends ServerPartialFail → ⊥
comes_not_ends d e = absurd (cc)

-- so a call that fails in part by its end had changed something
call_changed : (call : List Exchange) (s : ItemState) (xs : List Exchange) (after left : LinkLife) (result : Result (Unit {0}) LinkEnd) (last : List Event)
    (ends : IsEnd (item_plan s xs) after left result last) → after.goes_on ≡ false → any_change xs ≡ false → ((item_at s xs).stage ≡ Partly → ⊥)
    → Ends ServerPartialFail ≡ item_end (item_at s xs).stage result (any_change call || (any_change xs || is_cut_off (item_plan s xs) (ends_torn ends)))
    → any_change call ≡ true
call_changed call s xs after left result last (Finished now ok none same) over unchanged begun is =
    let at : ItemState = item_at s xs in
    let done : Ends ServerPartialFail ≡ done_end at.stage =
    is ∙ ap (λ (r : Result (Unit {0}) LinkEnd). item_end at.stage r (any_change call || (any_change xs || is_cut_off (item_plan s xs) false))) ok in
    elim (over_where at.stage at.mail now) [
      | OverSettled d settled ↦ absurd (comes_not_ends d (sym (done ∙ ap done_end settled)))
      | OverPartly partly ↦ absurd (begun partly)
    ]
call_changed call s xs after left result last (Failed w now failed hangs same) over unchanged begun is =
    let cut : Bool = is_cut_off (item_plan s xs) false in
    let changed : Bool = any_change call || (any_change xs || cut) in
    first_of (any_change call) (any_change xs) cut
    (broken_changed (refusal_end w) changed (is ∙ ap (λ (r : Result (Unit {0}) LinkEnd). item_end (item_at s xs).stage r changed) failed)) unchanged (none_cut (item_plan s xs))
call_changed call s xs after left result last (Broken c e now failed breaks) over unchanged begun is = absurd (not_both after.goes_on over breaks.on)
call_changed call s xs after left result last (LifeHadEnded c now ended failed none same) over unchanged begun is =
    let cut : Bool = is_cut_off (item_plan s xs) false in
    let changed : Bool = any_change call || (any_change xs || cut) in
    first_of (any_change call) (any_change xs) cut
    (broken_changed end.Lost changed (is ∙ ap (λ (r : Result (Unit {0}) LinkEnd). item_end (item_at s xs).stage r changed) failed)) unchanged (none_cut (item_plan s xs))
call_changed call s xs after left result last (Wanting failed hangs same) over unchanged begun is =
    let changed : Bool = any_change call || (any_change xs || is_cut_off (item_plan s xs) false) in
    let broke : Ends ServerPartialFail ≡ OutOfMemory = is ∙ ap (λ (r : Result (Unit {0}) LinkEnd). item_end (item_at s xs).stage r changed) failed in
    absurd (cc)

pub ended_before : (job : Job) (call : List Exchange) (before after : Mail) (life left : LinkLife) (client : ClientState) (events : List Event)
    (d : DoesItem job call before after life left client (Ends ServerPartialFail) events) → life.goes_on ≡ false → any_change call ≡ true
ended_before job call before after life left client events d over =
    let r : RunsSteps job before life left client events = d.runs in
    let s : ItemState = item_start job before in
    let none = none_ran (item_plan s) over r.follows.ran in
    call_changed call s r.exchanges r.follows.after left r.result r.follows.last r.follows.ends (ap (λ (l : LinkLife). l.goes_on) none.1 ∙ over) (ap any_change none.0)
    (λ partly. going_not_partly job.steps false job.done (sym (ap (λ (xs : List Exchange). (item_at s xs).stage) none.0) ∙ partly)) d.ends_is

-- ---- something was changed

broken_some : (w : LinkEnd) → (broken_end w true ≡ OutOfMemory) ⊎ (broken_end w true ≡ Ends ServerPartialFail)
broken_some end.Memory = inl refl
broken_some end.Lost = inr refl
broken_some (end.Bad at) = inr refl
broken_some end.Stray = inr refl
broken_some end.Bye = inr refl
broken_some end.TooMuch = inr refl
broken_some end.Refused = inr refl
broken_some end.NoQresync = inr refl
broken_some end.Lacks = inr refl

-- a plan that has something due ends with an error
pub err_where : (now : Due) (life left : LinkLife) (result : Result (Unit {0}) LinkEnd) (events : List Event) → IsEnd now life left result events → (now ≡ due.Done → ⊥)
    → (e : LinkEnd) × (result ≡ Err e)
err_where now life left result events (Finished done ok none same) undone = absurd (undone done)
err_where now life left result events (Failed w is failed hangs same) undone = (refusal_end w, failed)
err_where now life left result events (Broken c e is failed breaks) undone = (e, failed)
err_where now life left result events (LifeHadEnded c is ended failed none same) undone = (end.Lost, failed)
err_where now life left result events (Wanting failed hangs same) undone = (end.Memory, failed)

-- where something was changed that ends the call in part
ends_partly : (stage : ItemStage) (result : Result (Unit {0}) LinkEnd) (w : LinkEnd) (changed : Bool) (ends : ItemEnd) → result ≡ Err w → changed ≡ true
    → ends ≡ item_end stage result changed → (ends ≡ OutOfMemory) ⊎ (ends ≡ Ends ServerPartialFail)
ends_partly stage result w changed ends is was e =
    let so : ends ≡ broken_end w true = e ∙ (ap (λ (r : Result (Unit {0}) LinkEnd). item_end stage r changed) is ∙ ap (λ (b : Bool). broken_end w b) was) in
    elim (broken_some w) [
      | inl f ↦ inl (so ∙ f)
      | inr f ↦ inr (so ∙ f)
    ]

changed_joined : (e : Ending) → any_change (exchanges_of e) ≡ true → has_changed e ≡ true
changed_joined e was = joined (any_change e.before) (any_change e.own) (is_cut_off e.due e.torn) (sym (list_any-append is_change e.before e.own) ∙ was)
  where
    joined : (a b c : Bool) → (a || b) ≡ true → (a || (b || c)) ≡ true
    joined true b c f = refl
    joined false true c f = refl
    joined false false c f = absurd (cc)

changed_cut : (e : Ending) → is_cut_off e.due e.torn ≡ true → has_changed e ≡ true
changed_cut e cut = or_true_right (any_change e.before) (any_change e.own || is_cut_off e.due e.torn) (or_true_right (any_change e.own) (is_cut_off e.due e.torn) cut)

pub send_done : (c : Command) → due.Send c ≡ due.Done → ⊥
send_done c e = absurd (cc)

pub fails_done : (w : Refusal) → due.Fails w ≡ due.Done → ⊥
fails_done w e = absurd (cc)

-- by what was due then
ends_where : (job : Job) (call : List Exchange) (before after : Mail) (life left : LinkLife) (client : ClientState) (ends : ItemEnd) (events : List Event)
    (d : DoesItem job call before after life left client ends events) → ((ending_of call d.runs).due ≡ due.Done → ⊥) → has_changed (ending_of call d.runs) ≡ true
    → (ends ≡ OutOfMemory) ⊎ (ends ≡ Ends ServerPartialFail)
ends_where job call before after life left client ends events d undone was =
    let e : Ending = ending_of call d.runs in
    let err = err_where e.due d.runs.follows.after left d.runs.result d.runs.follows.last d.runs.follows.ends undone in
    ends_partly (item_at (item_start job before) d.runs.exchanges).stage d.runs.result err.0 (has_changed e) ends err.1 was d.ends_is

-- ---- an item that failed in part

-- its plan is done, unless memory ran out
done_partly : (stage : ItemStage) (m : Mail) (life left : LinkLife) (result : Result (Unit {0}) LinkEnd) (events : List Event) (changed : Bool) (ends : ItemEnd)
    → IsEnd (item_due stage m) life left result events → stage ≡ Partly → ends ≡ item_end stage result changed
    → (ends ≡ OutOfMemory) ⊎ (ends ≡ Ends ServerPartialFail)
done_partly stage m life left result events changed ends (Finished now ok none same) is e =
    inr (e ∙ (ap (λ (r : Result (Unit {0}) LinkEnd). item_end stage r changed) ok ∙ ap done_end is))
done_partly stage m life left result events changed ends (Failed w now failed hangs same) is e =
    absurd (fails_done w (sym now ∙ ap (λ (t : ItemStage). item_due t m) is))
done_partly stage m life left result events changed ends (Broken c w now failed breaks) is e =
    absurd (send_done c (sym now ∙ ap (λ (t : ItemStage). item_due t m) is))
done_partly stage m life left result events changed ends (LifeHadEnded c now ended failed none same) is e =
    absurd (send_done c (sym now ∙ ap (λ (t : ItemStage). item_due t m) is))
done_partly stage m life left result events changed ends (Wanting failed hangs same) is e =
    inl (e ∙ ap (λ (r : Result (Unit {0}) LinkEnd). item_end stage r changed) failed)

-- the last exchange was due after those before it
pub asked_last : (s : ItemState) (xs : List Exchange) (x : Exchange) → Answers s (xs ++ x ∷ []) → item_due (item_at s xs).stage (item_at s xs).mail ≡ due.Send x.command
asked_last s [] x a = a.0
asked_last s (y ∷ ys) x a = asked_last (item_step s y) ys x a.1

or_more : (a b c : Bool) → ((a || (b || false)) || c) ≡ (a || (b || c))
or_more true b c = refl
or_more false true c = refl
or_more false false c = refl

or_end : (a : Bool) → (a || false) ≡ a
or_end true = refl
or_end false = refl

-- what a stage says of changes, after any exchanges
says_all : (s : ItemState) (b : Bool) (xs : List Exchange) → Says s.stage b → Says (item_at s xs).stage (b || any_change xs)
says_all s b [] says = subst (λ (v : Bool). Says s.stage v) (sym (or_end b)) says
says_all s b (x ∷ xs) says =
    subst (λ (v : Bool). Says (item_at (item_step s x) xs).stage v) (or_more b (is_change x) (any_change xs))
    (says_all (item_step s x) (b || (is_change x || false)) xs (says_after s.stage s.mail x (told s.mail x) b says))

sent_is : (c d : Command) → due.Send c ≡ due.Send d → c ≡ d
sent_is c d e = ap sent e
  where
    sent : Due → Command
    sent (due.Send c) = c
    sent _ = command.Capability

-- ---- its last answer has no landing

changed_partly : (c : Command) (ss : List Step) (changed : Bool) (done : Done) (m : Mail) (x : Exchange) → IsLanding c → told_landing m x ≡ None
    → changed_stage c ss changed done m x ≡ Partly
changed_partly (command.Move uid name) ss changed done m x lands none = ap (moved_stage ss changed done) none
changed_partly (command.Append name flags date message) ss changed done m x lands none = ap (made_stage ss changed m.next_mark (length message)) none
changed_partly _ ss changed done m x lands none = absurd lands

selects_none : (f : Option Folder) (c : Command) → select_due f ≡ due.Send c → IsLanding c → ⊥
selects_none None c e lands = absurd (cc)
selects_none (Some f) c e lands = subst IsLanding (sym (sent_is (command.Select f.name (known_folder f)) c e)) lands

landing_step : (s : Step) (ss : List Step) (changed : Bool) (done : Done) (m : Mail) (x : Exchange) → step_due m s ≡ due.Send x.command → IsLanding x.command
    → told_landing m x ≡ None → obeyed s ss (changed || is_changing x.command) done m x (told m x) ≡ Partly
landing_step (step.Change c) ss changed done m x asked lands none =
    changed_partly c ss (changed || is_changing x.command) done m x (subst IsLanding (sym (sent_is c x.command asked)) lands) none
landing_step (step.Select folder mark) ss changed done m x asked lands none = absurd (selects_none (folder_in m.folders folder) x.command asked lands)
landing_step step.Unselect ss changed done m x asked lands none = absurd (subst IsLanding (sym (sent_is command.Unselect x.command asked)) lands)
landing_step (step.Delete uid) ss changed done m x asked lands none =
    absurd (subst IsLanding (sym (sent_is (command.Store uid true (deleted_flag ∷ [])) x.command asked)) lands)
landing_step (step.Expunge uid) ss changed done m x asked lands none = absurd (subst IsLanding (sym (sent_is (command.Expunge uid) x.command asked)) lands)
landing_step (step.List name special_use) ss changed done m x asked lands none =
    absurd (subst IsLanding (sym (sent_is (command.List special_use) x.command asked)) lands)
landing_step (step.SelectMade name) ss changed done m x asked lands none = absurd (selects_none (folder_of (named m.folders name)) x.command asked lands)

landing_partly : (stage : ItemStage) (m : Mail) (x : Exchange) → item_due stage m ≡ due.Send x.command → IsLanding x.command → is_ok x.status ≡ true
    → told_landing m x ≡ None → stage_after stage m x (told m x) ≡ Partly
landing_partly (Doing s ss changed done) m x asked lands ok none =
    ap (λ (b : Bool). doing_after b s ss changed done m x (told m x)) ok ∙ landing_step s ss changed done m x asked lands none
landing_partly (Settled done) m x asked lands ok none = absurd (cc)
landing_partly Partly m x asked lands ok none = refl
landing_partly (Failing w) m x asked lands ok none = absurd (cc)

-- ---- its last answer refuses a change after another one

must_change : (c : Command) → MustBeObeyed c → is_changing c ≡ true
must_change (command.Store uid add flags) must = refl
must_change (command.Move uid name) must = refl
must_change (command.Append name flags date message) must = refl
must_change (command.Create name) must = refl
must_change (command.Delete name) must = refl
must_change (command.Rename from to) must = refl
must_change (command.Subscribe name on) must = refl
must_change _ must = absurd must

selects_no_change : (f : Option Folder) (c : Command) → select_due f ≡ due.Send c → MustBeObeyed c → ⊥
selects_no_change None c e must = absurd (cc)
selects_no_change (Some f) c e must = subst MustBeObeyed (sym (sent_is (command.Select f.name (known_folder f)) c e)) must

refused_step : (s : Step) (ss : List Step) (changed : Bool) (done : Done) (m : Mail) (x : Exchange) → step_due m s ≡ due.Send x.command → MustBeObeyed x.command
    → changed ≡ true → refused s ss changed done x ≡ Partly
refused_step (step.Change c) ss changed done m x asked must was =
    ap (λ (k : Bool). refused_if k changed x.code) (must_change c (subst MustBeObeyed (sym (sent_is c x.command asked)) must))
    ∙ ap (λ (b : Bool). change_refused b x.code) was
refused_step (step.Delete uid) ss changed done m x asked must was = ap (λ (b : Bool). change_refused b x.code) was
refused_step (step.Select folder mark) ss changed done m x asked must was = absurd (selects_no_change (folder_in m.folders folder) x.command asked must)
refused_step step.Unselect ss changed done m x asked must was = absurd (subst MustBeObeyed (sym (sent_is command.Unselect x.command asked)) must)
refused_step (step.Expunge uid) ss changed done m x asked must was = absurd (subst MustBeObeyed (sym (sent_is (command.Expunge uid) x.command asked)) must)
refused_step (step.List name special_use) ss changed done m x asked must was =
    absurd (subst MustBeObeyed (sym (sent_is (command.List special_use) x.command asked)) must)
refused_step (step.SelectMade name) ss changed done m x asked must was = absurd (selects_no_change (folder_of (named m.folders name)) x.command asked must)

refused_partly : (stage : ItemStage) (m : Mail) (x : Exchange) (b : Bool) → item_due stage m ≡ due.Send x.command → MustBeObeyed x.command → is_ok x.status ≡ false
    → Says stage b → b ≡ true → stage_after stage m x (told m x) ≡ Partly
refused_partly (Doing s ss changed done) m x b asked must refusal says was =
    ap (λ (k : Bool). doing_after k s ss changed done m x (told m x)) refusal ∙ refused_step s ss changed done m x asked must (says ∙ was)
refused_partly (Settled done) m x b asked must refusal says was = absurd (cc)
refused_partly Partly m x b asked must refusal says was = refl
refused_partly (Failing w) m x b asked must refusal says was = absurd (cc)

-- ---- its last answer is a LIST without the folder that was made

pub answers_front : (s : ItemState) (xs : List Exchange) (x : Exchange) → Answers s (xs ++ x ∷ []) → Answers s xs
answers_front s [] x a = tt
answers_front s (y ∷ ys) x a = (a.0, answers_front (item_step s y) ys x a.1)

change_no_list : (c : Command) (made : Option (List ℕ)) → FitsChange made c → IsList c → ⊥
change_no_list (command.List special_use) made fits is = fits
change_no_list _ made fits is = is

selects_no_list : (f : Option Folder) (c : Command) → select_due f ≡ due.Send c → IsList c → ⊥
selects_no_list None c e is = absurd (cc)
selects_no_list (Some f) c e is = subst IsList (sym (sent_is (command.Select f.name (known_folder f)) c e)) is

listed_step : (heard : List Exchange) (s : Step) (ss : List Step) (changed : Bool) (done : Done) (m : Mail) (x : Exchange) (name : List ℕ) → Knowing heard (s ∷ ss)
    → step_due m s ≡ due.Send x.command → IsList x.command → HasCreated name heard → changed ≡ true → named (told m x).folders name ≡ None
    → obeyed s ss (changed || is_changing x.command) done m x (told m x) ≡ Partly
listed_step heard (step.List n special_use) ss changed done m x name k asked is made was none =
    let same : n ≡ name = name_is n name (sym k.fits.0 ∙ k.only name made) in
    ap (λ (v : Bool). listed_stage ss (v || is_changing x.command) done (named (told m x).folders n)) was
    ∙ ap (listed_stage ss true done) (ap (λ (q : List ℕ). named (told m x).folders q) same ∙ none)
listed_step heard (step.Change c) ss changed done m x name k asked is made was none =
    absurd (change_no_list c k.made k.fits.0 (subst IsList (sym (sent_is c x.command asked)) is))
listed_step heard (step.Select folder mark) ss changed done m x name k asked is made was none = absurd (selects_no_list (folder_in m.folders folder) x.command asked is)
listed_step heard step.Unselect ss changed done m x name k asked is made was none = absurd (subst IsList (sym (sent_is command.Unselect x.command asked)) is)
listed_step heard (step.Delete uid) ss changed done m x name k asked is made was none =
    absurd (subst IsList (sym (sent_is (command.Store uid true (deleted_flag ∷ [])) x.command asked)) is)
listed_step heard (step.Expunge uid) ss changed done m x name k asked is made was none = absurd (subst IsList (sym (sent_is (command.Expunge uid) x.command asked)) is)
listed_step heard (step.SelectMade n) ss changed done m x name k asked is made was none = absurd (selects_no_list (folder_of (named m.folders n)) x.command asked is)

listed_partly : (heard : List Exchange) (stage : ItemStage) (m : Mail) (x : Exchange) (name : List ℕ) (b : Bool) → Knows heard stage → item_due stage m ≡ due.Send x.command
    → IsList x.command → is_ok x.status ≡ true → HasCreated name heard → Says stage b → b ≡ true → named (told m x).folders name ≡ None
    → stage_after stage m x (told m x) ≡ Partly
listed_partly heard (Doing s ss changed done) m x name b k asked is ok made says was none =
    ap (λ (v : Bool). doing_after v s ss changed done m x (told m x)) ok ∙ listed_step heard s ss changed done m x name k asked is made (says ∙ was) none
listed_partly heard (Settled done) m x name b k asked is ok made says was none = absurd (cc)
listed_partly heard Partly m x name b k asked is ok made says was none = refl
listed_partly heard (Failing w) m x name b k asked is ok made says was none = absurd (cc)

-- ---- the whole

-- by what its last exchange made of it
partly_where : (job : Job) (call : List Exchange) (before after : Mail) (life left : LinkLife) (client : ClientState) (ends : ItemEnd) (events : List Event)
    (d : DoesItem job call before after life left client ends events) (earlier : List Exchange) (x : Exchange) → d.runs.exchanges ≡ earlier ++ x ∷ []
    → (Answers (item_start job before) (earlier ++ x ∷ []) → (item_step (item_at (item_start job before) earlier) x).stage ≡ Partly)
    → (ends ≡ OutOfMemory) ⊎ (ends ≡ Ends ServerPartialFail)
partly_where job call before after life left client ends events d earlier x own partly =
    let s : ItemState = item_start job before in
    let r : RunsSteps job before life left client events = d.runs in
    let answers : Answers s (earlier ++ x ∷ []) = subst (Answers s) own (ran_answers s life r.follows.after r.exchanges r.follows.so_far r.follows.ran) in
    let is : (item_at s r.exchanges).stage ≡ Partly =
    ap (λ (xs : List Exchange). (item_at s xs).stage) own ∙ (ap (λ (t : ItemState). t.stage) (item_more s earlier x) ∙ partly answers) in
    done_partly (item_at s r.exchanges).stage (item_at s r.exchanges).mail r.follows.after left r.result r.follows.last (has_changed (ending_of call r)) ends
    r.follows.ends is d.ends_is

pub partly_ends : (job : Job) (call : List Exchange) (before after : Mail) (life left : LinkLife) (client : ClientState) (ends : ItemEnd) (events : List Event)
    (d : DoesItem job call before after life left client ends events) → IsFit job → FailedPartly (ending_of call d.runs)
    → (ends ≡ OutOfMemory) ⊎ (ends ≡ Ends ServerPartialFail)
partly_ends job call before after life left client ends events d fit (Torn c is changes torn) =
    let e : Ending = ending_of call d.runs in
    ends_where job call before after life left client ends events d (λ done. send_done c (sym is ∙ done))
    (changed_cut e (ap (λ (n : Due). is_cut_off n e.torn) is ∙ and_true (is_changing c) e.torn changes torn))
partly_ends job call before after life left client ends events d fit (CutOff c was is) =
    ends_where job call before after life left client ends events d (λ done. send_done c (sym is ∙ done)) (changed_joined (ending_of call d.runs) was)
partly_ends job call before after life left client ends events d fit (NotRead w was is) =
    ends_where job call before after life left client ends events d (λ done. fails_done w (sym is ∙ done)) (changed_joined (ending_of call d.runs) was)
partly_ends job call before after life left client ends events d fit (NoLanding l lands is none) =
    let s : ItemState = item_start job before in
    partly_where job call before after life left client ends events d l.earlier l.last l.own_is
    (λ answers. landing_partly (item_at s l.earlier).stage (item_at s l.earlier).mail l.last (asked_last s l.earlier l.last answers) lands
    (and_both (is_ok l.last.status) (is_changing l.last.command) is).0 (subst (λ (m : Mail). told_landing m l.last ≡ None) (sym (item_mail s l.earlier)) none))
partly_ends job call before after life left client ends events d fit (NotListed l name made is ok none) =
    let s : ItemState = item_start job before in
    let mail_is : (item_step (item_at s l.earlier) l.last).mail ≡ fold told s.mail d.runs.exchanges =
    ap (λ (t : ItemState). t.mail) (sym (item_more s l.earlier l.last)) ∙ (item_mail s (l.earlier ++ l.last ∷ []) ∙ ap (fold told s.mail) (sym l.own_is)) in
    partly_where job call before after life left client ends events d l.earlier l.last l.own_is
    (λ answers. listed_partly l.earlier (item_at s l.earlier).stage (item_at s l.earlier).mail l.last name (any_change l.earlier)
    (knows_answers s [] l.earlier (knows_begun job before fit) (answers_front s l.earlier l.last answers)) (asked_last s l.earlier l.last answers) is (ap is_ok ok) made
    (says_all s false l.earlier (says_begun job.steps job.done)) (created_changes name l.earlier made) (ap (λ (m : Mail). named m.folders name) mail_is ∙ none))
partly_ends job call before after life left client ends events d fit (LaterRefused l was is fails) =
    let s : ItemState = item_start job before in
    partly_where job call before after life left client ends events d l.earlier l.last l.own_is
    (λ answers. refused_partly (item_at s l.earlier).stage (item_at s l.earlier).mail l.last (any_change l.earlier) (asked_last s l.earlier l.last answers) is
    (is_not_ok l.last.status fails) (says_all s false l.earlier (says_begun job.steps job.done)) was)
