-- An item ends its call as the store wasn't there by its causes alone, and each of them ends it so.
use Rattle.std.proofs.Common.{◌≡◌, ◌⊎◌, ◌||◌, ◌&&◌, ◌++◌, ℕ, Bool, true, false, List, [], ◌∷◌, Option, Some, None, Result, refl, sym, ◌∙◌, ap, subst, inl, inr}
use Rattle.std.proofs.lemmas.List.Folds.{list_any-append}
use Rattle.gate_world.specs.declared.event.Event.{Event}
use Rattle.imap_types.specs.declared.command.Command.{Command}
use Rattle.imap_types.specs.declared.command.Command.TheVariants as command
use Rattle.told_folder.specs.declared.exchange.Exchange.{Exchange}
use Rattle.told_folder.specs.declared.message.NumberedFolder.{NumberedFolder}
use Rattle.told_mail.specs.Mail.{Mail, named}
use Rattle.imap_exchange.specs.declared.link_end.LinkEnd.{LinkEnd}
use Rattle.imap_exchange.specs.declared.link_end.LinkEnd.TheVariants as end
use Rattle.imap_client.specs.Calls.{Breaks}
use Rattle.imap_client.specs.Connecting.{is_ok}
use Rattle.imap_client.specs.LinkLife.{LinkLife, ClientState}
use Rattle.imap_client.specs.Plans.{Ran, Begun, Then, IsEnd, Finished, Failed, Broken, LifeHadEnded, Wanting, ends_torn}
use Rattle.imap_client.specs.Refusals.{refusal_end}
use Rattle.imap_client.specs.Selecting.{tells_validity}
use Rattle.imap_client.specs.declared.plan.Due.{Due}
use Rattle.imap_client.specs.declared.plan.Due.TheVariants as due
use Rattle.imap_client.specs.declared.plan.Refusal.{Refusal}
use Rattle.imap_client.specs.declared.plan.Refusal.TheVariants as refusal
use Rattle.jmap_arguments.specs.declared.method_error.MethodError.TheVariants.{ServerUnavailable}
use Rattle.told_changes.specs.Told.{told, is_changing}
use Rattle.set_jobs.specs.declared.done.Done.{Done}
use Rattle.set_jobs.specs.declared.job.Job.{Job}
use Rattle.set_jobs.specs.declared.step.Step.{Step}
use Rattle.set_jobs.specs.declared.step.Step.TheVariants as step
use Rattle.set_items.specs.Items.{ItemStage, Doing, Settled, Partly, Failing, ItemState, Answers, item_at, item_step, item_due, item_plan, item_start}
use Rattle.set_items.specs.Items.{stage_after, doing_after, obeyed, refused, refused_if, selected_stage, made_folder, shows, step_due, deleted_flag}
use Rattle.set_items.specs.Ends.{ItemEnd, Ends, OutOfMemory, any_change, is_change, is_cut_off, item_end, broken_end, done_end}
use Rattle.set_items.specs.Causes.{Ending, IsSelect, ItemLife, StoreFailed, WasUnavailable, exchanges_of}
use Rattle.set_items.specs.Causes.{LifeWasOver, LifeEnded, LinkFailed, Unreadable, StrayLine, SaidBye, GaveTooMuch, ReadRefused, NoValidity}
use Rattle.set_items.specs.Commands.{BeginsHeld, FitsChange, IsFit}
use Rattle.set_items.specs.Talks.{DoesItem, RunsSteps, ending_of, has_changed}
use Rattle.set_items.proofs.Broken.{answers_front, asked_last, err_where, fails_done, send_done}
use Rattle.set_items.proofs.Endings.{ended, not_both, sent_is}
use Rattle.set_items.proofs.Failing.{NoLaterSelects, begins, begins_later, failed_by}
use Rattle.set_items.proofs.Leaving.{Knowing, Knows, knows_answers, knows_begun}
use Rattle.set_items.proofs.Staging.{item_more, is_not_ok, and_false, both_false, ran_answers}

-- ---- an error after no change

broken_unchanged : (e : LinkEnd) (changed : Bool) → Ends ServerUnavailable ≡ broken_end e changed → changed ≡ false
broken_unchanged e false is = refl
broken_unchanged end.Lost true is = absurd (cc)
broken_unchanged (end.Bad at) true is = absurd (cc)
broken_unchanged end.Stray true is = absurd (cc)
broken_unchanged end.Bye true is = absurd (cc)
broken_unchanged end.TooMuch true is = absurd (cc)
broken_unchanged end.Refused true is = absurd (cc)
broken_unchanged end.NoQresync true is = absurd (cc)
broken_unchanged end.Lacks true is = absurd (cc)
broken_unchanged end.Memory true is = absurd (cc)

done_not_unavailable : (stage : ItemStage) → Ends ServerUnavailable ≡ done_end stage → ⊥
done_not_unavailable (Settled done) e = absurd (cc)
done_not_unavailable Partly e = absurd (cc)
done_not_unavailable (Doing s ss changed done) e = absurd (cc)
done_not_unavailable (Failing w) e = absurd (cc)

was_by : (call : List Exchange) (s : ItemState) (xs : List Exchange) (lives : ItemLife) (torn : Bool)
    → (any_change call || (any_change xs || is_cut_off (item_plan s xs) torn)) ≡ false → (any_change xs ≡ false → StoreFailed (ended call s xs lives torn))
    → WasUnavailable (ended call s xs lives torn)
was_by call s xs lives torn none cause =
    let first = both_false (any_change call) (any_change xs || is_cut_off (item_plan s xs) torn) none in
    let second = both_false (any_change xs) (is_cut_off (item_plan s xs) torn) first.1 in
    record {
      unchanged = list_any-append is_change call xs ∙ (ap (λ v. v || any_change xs) first.0 ∙ second.0);
      whole = λ c asked changes. and_false (is_changing c) torn (sym (ap (λ d. is_cut_off d torn) asked) ∙ second.1) changes;
      cause = cause second.0;
    }

-- ---- an exchange that isn't completed

broke_by : (call : List Exchange) (s : ItemState) (xs : List Exchange) (lives : ItemLife) (torn changed : Bool) (c : Command) (e : LinkEnd) → item_plan s xs ≡ due.Send c
    → Breaks lives.reached c e lives.left lives.last → Ends ServerUnavailable ≡ broken_end e changed → StoreFailed (ended call s xs lives torn)
broke_by call s xs lives torn changed c end.Lost now breaks is = LinkFailed (record { command = c; is_due = now; breaks = breaks })
broke_by call s xs lives torn changed c (end.Bad at) now breaks is = Unreadable at (record { command = c; is_due = now; breaks = breaks })
broke_by call s xs lives torn changed c end.Stray now breaks is = StrayLine (record { command = c; is_due = now; breaks = breaks })
broke_by call s xs lives torn changed c end.Bye now breaks is = SaidBye (record { command = c; is_due = now; breaks = breaks })
broke_by call s xs lives torn changed c end.TooMuch now breaks is = GaveTooMuch (record { command = c; is_due = now; breaks = breaks })
broke_by call s xs lives torn changed c end.Refused now breaks is = absurd breaks.cause
broke_by call s xs lives torn changed c end.NoQresync now breaks is = absurd breaks.cause
broke_by call s xs lives torn changed c end.Lacks now breaks is = absurd breaks.cause
broke_by call s xs lives torn changed c end.Memory now breaks is = absurd (cc)

-- ---- a life that has ended

-- it ended before the item, or with its last exchange, which is refused then
over_by : (call : List Exchange) (s : ItemState) (torn : Bool) (c : Command) (left : LinkLife) (last : List Event) {life after : LinkLife} {xs : List Exchange} {events : List Event} (g : Bool)
    → life.goes_on ≡ g → after.goes_on ≡ false → item_plan s xs ≡ due.Send c → Ran (item_plan s) life xs after events
    → StoreFailed (ended call s xs (record { begun = life; reached = after; left = left; last = last }) torn)
over_by call s torn c left last false begun over now ran = LifeWasOver c now begun
over_by call s torn c left last {life = life} true begun over now Begun = absurd (not_both life.goes_on over begun)
over_by call s torn c left last true begun over now (Then {heard = heard} next ran) =
    LifeEnded (record { earlier = heard; last = next.exchange; own_is = refl }) c now begun over (next.completes.refused over)

-- ---- an item that ended so

unavailable_by : (call : List Exchange) (s : ItemState) (life after left : LinkLife) (xs : List Exchange) (so_far last : List Event) (result : Result (Unit {0}) LinkEnd)
    → Knows [] s.stage → ((w : Refusal) → item_due s.stage s.mail ≡ due.Fails w → ⊥) → NoLaterSelects s.stage → Ran (item_plan s) life xs after so_far
    → (ends : IsEnd (item_plan s xs) after left result last)
    → Ends ServerUnavailable ≡ item_end (item_at s xs).stage result (any_change call || (any_change xs || is_cut_off (item_plan s xs) (ends_torn ends)))
    → WasUnavailable (ended call s xs (record { begun = life; reached = after; left = left; last = last }) (ends_torn ends))
unavailable_by call s life after left xs so_far last result k first none ran (Finished now ok empty same) is =
    let changed : Bool = any_change call || (any_change xs || is_cut_off (item_plan s xs) false) in
    absurd (done_not_unavailable (item_at s xs).stage (is ∙ ap (λ (r : Result (Unit {0}) LinkEnd). item_end (item_at s xs).stage r changed) ok))
unavailable_by call s life after left xs so_far last result k first none ran (Failed w now failed hangs same) is =
    let changed : Bool = any_change call || (any_change xs || is_cut_off (item_plan s xs) false) in
    let broke : Ends ServerUnavailable ≡ broken_end (refusal_end w) changed =
    is ∙ ap (λ (r : Result (Unit {0}) LinkEnd). item_end (item_at s xs).stage r changed) failed in
    was_by call s xs (record { begun = life; reached = after; left = left; last = last }) false (broken_unchanged (refusal_end w) changed broke)
    (λ unchanged. failed_by call s (record { begun = life; reached = after; left = left; last = last }) false w k (first w) none ran now unchanged)
unavailable_by call s life after left xs so_far last result k first none ran (Broken c e now failed breaks) is =
    let torn : Bool = ends_torn (Broken c e now failed breaks) in
    let changed : Bool = any_change call || (any_change xs || is_cut_off (item_plan s xs) torn) in
    let broke : Ends ServerUnavailable ≡ broken_end e changed = is ∙ ap (λ (r : Result (Unit {0}) LinkEnd). item_end (item_at s xs).stage r changed) failed in
    was_by call s xs (record { begun = life; reached = after; left = left; last = last }) torn (broken_unchanged e changed broke)
    (λ unchanged. broke_by call s xs (record { begun = life; reached = after; left = left; last = last }) torn changed c e now breaks broke)
unavailable_by call s life after left xs so_far last result k first none ran (LifeHadEnded c now over failed empty same) is =
    let changed : Bool = any_change call || (any_change xs || is_cut_off (item_plan s xs) false) in
    let broke : Ends ServerUnavailable ≡ broken_end end.Lost changed = is ∙ ap (λ (r : Result (Unit {0}) LinkEnd). item_end (item_at s xs).stage r changed) failed in
    was_by call s xs (record { begun = life; reached = after; left = left; last = last }) false (broken_unchanged end.Lost changed broke)
    (λ unchanged. over_by call s false c left last life.goes_on refl over now ran)
unavailable_by call s life after left xs so_far last result k first none ran (Wanting failed hangs same) is =
    let changed : Bool = any_change call || (any_change xs || is_cut_off (item_plan s xs) false) in
    let broke : Ends ServerUnavailable ≡ OutOfMemory = is ∙ ap (λ (r : Result (Unit {0}) LinkEnd). item_end (item_at s xs).stage r changed) failed in
    absurd (cc)

pub unavailable : (job : Job) (call : List Exchange) (before after : Mail) (life left : LinkLife) (client : ClientState) (events : List Event)
    (d : DoesItem job call before after life left client (Ends ServerUnavailable) events) → IsFit job → BeginsHeld before job → WasUnavailable (ending_of call d.runs)
unavailable job call before after life left client events d fit held =
    let r : RunsSteps job before life left client events = d.runs in
    unavailable_by call (item_start job before) life r.follows.after left r.exchanges r.follows.so_far r.follows.last r.result (knows_begun job before fit)
    (λ w. begins job before w fit held) (begins_later job before held) r.follows.ran r.follows.ends d.ends_is

-- ---- causes that end an item so

broken_none : (w : LinkEnd) → (broken_end w false ≡ OutOfMemory) ⊎ (broken_end w false ≡ Ends ServerUnavailable)
broken_none end.Memory = inl refl
broken_none end.Lost = inr refl
broken_none (end.Bad at) = inr refl
broken_none end.Stray = inr refl
broken_none end.Bye = inr refl
broken_none end.TooMuch = inr refl
broken_none end.Refused = inr refl
broken_none end.NoQresync = inr refl
broken_none end.Lacks = inr refl

whole_if : (k torn : Bool) → (k ≡ true → torn ≡ false) → (k && torn) ≡ false
whole_if true torn whole = whole refl
whole_if false torn whole = refl

whole_cut : (d : Due) (torn : Bool) → ((c : Command) → d ≡ due.Send c → is_changing c ≡ true → torn ≡ false) → is_cut_off d torn ≡ false
whole_cut (due.Send c) torn whole = whole_if (is_changing c) torn (whole c refl)
whole_cut due.Done torn whole = refl
whole_cut (due.Fails w) torn whole = refl

none_changed : (e : Ending) → any_change (exchanges_of e) ≡ false → is_cut_off e.due e.torn ≡ false → has_changed e ≡ false
none_changed e unchanged whole =
    let both = both_false (any_change e.before) (any_change e.own) (sym (list_any-append is_change e.before e.own) ∙ unchanged) in
    ap (λ v. v || (any_change e.own || is_cut_off e.due e.torn)) both.0 ∙ (ap (λ v. v || is_cut_off e.due e.torn) both.1 ∙ whole)

-- where something is due, and nothing was changed
ends_where : (job : Job) (call : List Exchange) (before after : Mail) (life left : LinkLife) (client : ClientState) (ends : ItemEnd) (events : List Event)
    (d : DoesItem job call before after life left client ends events) → ((ending_of call d.runs).due ≡ due.Done → ⊥) → has_changed (ending_of call d.runs) ≡ false
    → (ends ≡ OutOfMemory) ⊎ (ends ≡ Ends ServerUnavailable)
ends_where job call before after life left client ends events d undone none =
    let e : Ending = ending_of call d.runs in
    let stage : ItemStage = (item_at (item_start job before) d.runs.exchanges).stage in
    let err = err_where e.due d.runs.follows.after left d.runs.result d.runs.follows.last d.runs.follows.ends undone in
    let so : ends ≡ broken_end err.0 false =
    d.ends_is ∙ (ap (λ (r : Result (Unit {0}) LinkEnd). item_end stage r (has_changed e)) err.1 ∙ ap (λ (b : Bool). broken_end err.0 b) none) in
    elim (broken_none err.0) [
      | inl f ↦ inl (so ∙ f)
      | inr f ↦ inr (so ∙ f)
    ]

-- ---- its last answer refuses a command that reads

no_read : (c d : Command) → c ≡ d → is_changing d ≡ false → is_changing c ≡ true → ⊥
no_read c d same reads changes = not_both (is_changing d) reads (ap is_changing (sym same) ∙ changes)

refused_step : (s : Step) (ss : List Step) (changed : Bool) (done : Done) (m : Mail) (x : Exchange) → step_due m s ≡ due.Send x.command → is_changing x.command ≡ false
    → (w : Refusal) × (refused s ss changed done x ≡ Failing w)
refused_step (step.Change c) ss changed done m x asked reads =
    (refusal.Refused, ap (λ (k : Bool). refused_if k changed x.code) (ap is_changing (sent_is c x.command asked) ∙ reads))
refused_step (step.Delete uid) ss changed done m x asked reads =
    absurd (no_read (command.Store uid true (deleted_flag ∷ [])) x.command (sent_is (command.Store uid true (deleted_flag ∷ [])) x.command asked) reads refl)
refused_step (step.Expunge uid) ss changed done m x asked reads =
    absurd (no_read (command.Expunge uid) x.command (sent_is (command.Expunge uid) x.command asked) reads refl)
refused_step (step.Select folder mark) ss changed done m x asked reads = (refusal.Refused, refl)
refused_step step.Unselect ss changed done m x asked reads = (refusal.Refused, refl)
refused_step (step.List name special_use) ss changed done m x asked reads = (refusal.Refused, refl)
refused_step (step.SelectMade name) ss changed done m x asked reads = (refusal.Refused, refl)

refused_fails : (stage : ItemStage) (m : Mail) (x : Exchange) → item_due stage m ≡ due.Send x.command → is_changing x.command ≡ false → is_ok x.status ≡ false
    → (w : Refusal) × (stage_after stage m x (told m x) ≡ Failing w)
refused_fails (Doing s ss changed done) m x asked reads fails =
    let by = refused_step s ss changed done m x asked reads in
    (by.0, ap (λ (b : Bool). doing_after b s ss changed done m x (told m x)) fails ∙ by.1)
refused_fails (Settled done) m x asked reads fails = absurd (cc)
refused_fails Partly m x asked reads fails = absurd (cc)
refused_fails (Failing w) m x asked reads fails = absurd (cc)

-- ---- its last answer is a SELECT without a validity

change_no_select : (c : Command) (made : Option (List ℕ)) → FitsChange made c → IsSelect c → ⊥
change_no_select (command.Select name known) made fits is = fits
change_no_select _ made fits is = is

folder_lacks : (ss : List Step) (changed tells : Bool) (o : Option NumberedFolder) → tells ≡ false → made_folder ss changed tells o ≡ Failing refusal.Lacks
folder_lacks ss changed tells None is = refl
folder_lacks ss changed true (Some h) is = absurd (cc)
folder_lacks ss changed false (Some h) is = refl

select_step : (heard : List Exchange) (s : Step) (ss : List Step) (changed : Bool) (done : Done) (m : Mail) (x : Exchange) (after : Mail) → Knowing heard (s ∷ ss)
    → step_due m s ≡ due.Send x.command → IsSelect x.command → tells_validity x.responses ≡ false → obeyed s ss changed done m x after ≡ Failing refusal.Lacks
select_step heard (step.Select folder mark) ss changed done m x after k asked is none =
    ap (λ (tells : Bool). selected_stage ss changed done tells (shows after mark)) none
select_step heard (step.SelectMade name) ss changed done m x after k asked is none =
    folder_lacks ss changed (tells_validity x.responses) (named after.folders name) none
select_step heard (step.Change c) ss changed done m x after k asked is none =
    absurd (change_no_select c k.made k.fits.0 (subst IsSelect (sym (sent_is c x.command asked)) is))
select_step heard step.Unselect ss changed done m x after k asked is none = absurd (subst IsSelect (sym (sent_is command.Unselect x.command asked)) is)
select_step heard (step.Delete uid) ss changed done m x after k asked is none =
    absurd (subst IsSelect (sym (sent_is (command.Store uid true (deleted_flag ∷ [])) x.command asked)) is)
select_step heard (step.Expunge uid) ss changed done m x after k asked is none = absurd (subst IsSelect (sym (sent_is (command.Expunge uid) x.command asked)) is)
select_step heard (step.List name special_use) ss changed done m x after k asked is none =
    absurd (subst IsSelect (sym (sent_is (command.List special_use) x.command asked)) is)

select_fails : (heard : List Exchange) (stage : ItemStage) (m : Mail) (x : Exchange) → Knows heard stage → item_due stage m ≡ due.Send x.command → IsSelect x.command
    → is_ok x.status ≡ true → tells_validity x.responses ≡ false → stage_after stage m x (told m x) ≡ Failing refusal.Lacks
select_fails heard (Doing s ss changed done) m x k asked is ok none =
    ap (λ (b : Bool). doing_after b s ss changed done m x (told m x)) ok
    ∙ select_step heard s ss (changed || is_changing x.command) done m x (told m x) k asked is none
select_fails heard (Settled done) m x k asked is ok none = absurd (cc)
select_fails heard Partly m x k asked is ok none = absurd (cc)
select_fails heard (Failing w) m x k asked is ok none = absurd (cc)

-- ---- the whole

-- what is due after the last exchange, by what that made of the item
due_where : (job : Job) (call : List Exchange) (before after : Mail) (life left : LinkLife) (client : ClientState) (ends : ItemEnd) (events : List Event)
    (d : DoesItem job call before after life left client ends events) (earlier : List Exchange) (x : Exchange) → d.runs.exchanges ≡ earlier ++ x ∷ []
    → (Answers (item_start job before) (earlier ++ x ∷ []) → (w : Refusal) × ((item_step (item_at (item_start job before) earlier) x).stage ≡ Failing w))
    → (ending_of call d.runs).due ≡ due.Done → ⊥
due_where job call before after life left client ends events d earlier x own failing done =
    let s : ItemState = item_start job before in
    let r : RunsSteps job before life left client events = d.runs in
    let answers : Answers s (earlier ++ x ∷ []) = subst (Answers s) own (ran_answers s life r.follows.after r.exchanges r.follows.so_far r.follows.ran) in
    let fails = failing answers in
    let is : (item_at s r.exchanges).stage ≡ Failing fails.0 =
    ap (λ (xs : List Exchange). (item_at s xs).stage) own ∙ (ap (λ (t : ItemState). t.stage) (item_more s earlier x) ∙ fails.1) in
    fails_done fails.0 (sym (ap (λ (t : ItemStage). item_due t (item_at s r.exchanges).mail) is) ∙ done)

undone : (job : Job) (call : List Exchange) (before after : Mail) (life left : LinkLife) (client : ClientState) (ends : ItemEnd) (events : List Event)
    (d : DoesItem job call before after life left client ends events) → IsFit job → StoreFailed (ending_of call d.runs) → (ending_of call d.runs).due ≡ due.Done → ⊥
undone job call before after life left client ends events d fit (LifeWasOver c now over) done = send_done c (sym now ∙ done)
undone job call before after life left client ends events d fit (LifeEnded l c now begun over fails) done = send_done c (sym now ∙ done)
undone job call before after life left client ends events d fit (LinkFailed b) done = send_done b.command (sym b.is_due ∙ done)
undone job call before after life left client ends events d fit (Unreadable at b) done = send_done b.command (sym b.is_due ∙ done)
undone job call before after life left client ends events d fit (StrayLine b) done = send_done b.command (sym b.is_due ∙ done)
undone job call before after life left client ends events d fit (SaidBye b) done = send_done b.command (sym b.is_due ∙ done)
undone job call before after life left client ends events d fit (GaveTooMuch b) done = send_done b.command (sym b.is_due ∙ done)
undone job call before after life left client ends events d fit (ReadRefused l reads fails) done =
    let s : ItemState = item_start job before in
    due_where job call before after life left client ends events d l.earlier l.last l.own_is
    (λ answers. refused_fails (item_at s l.earlier).stage (item_at s l.earlier).mail l.last (asked_last s l.earlier l.last answers) reads (is_not_ok l.last.status fails)) done
undone job call before after life left client ends events d fit (NoValidity l is ok none) done =
    let s : ItemState = item_start job before in
    due_where job call before after life left client ends events d l.earlier l.last l.own_is
    (λ answers. (
      refusal.Lacks,
      select_fails l.earlier (item_at s l.earlier).stage (item_at s l.earlier).mail l.last
          (knows_answers s [] l.earlier (knows_begun job before fit) (answers_front s l.earlier l.last answers)) (asked_last s l.earlier l.last answers) is (ap is_ok ok) none,
    )) done

pub unavailable_ends : (job : Job) (call : List Exchange) (before after : Mail) (life left : LinkLife) (client : ClientState) (ends : ItemEnd) (events : List Event)
    (d : DoesItem job call before after life left client ends events) → IsFit job → WasUnavailable (ending_of call d.runs)
    → (ends ≡ OutOfMemory) ⊎ (ends ≡ Ends ServerUnavailable)
unavailable_ends job call before after life left client ends events d fit was =
    let e : Ending = ending_of call d.runs in
    ends_where job call before after life left client ends events d (undone job call before after life left client ends events d fit was.cause)
    (none_changed e was.unchanged (whole_cut e.due e.torn was.whole))
