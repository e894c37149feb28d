-- What a task comes to.
use Rattle.std.proofs.Common.{arith, ◌≡◌, ◌⊎◌, ◌++◌, ◌+◌, ◌≤◌, ℕ, Bool, true, false, if◌then◌else◌, Option, List, [], Some, None, Result, Ok, Err, refl, sym, ap, subst}
use Rattle.gate_world.specs.Causes.{Faults, FrontAlone, Hidden, LinkAlone, NoFault, Later, SayAlone, Rose, RoseBy, no_faults}
use Rattle.gate_world.specs.declared.event.Event.{Event}
use Rattle.gate_words.specs.Pages.{page_text}
use Rattle.gate_words.specs.Task.{IsTask}
use Rattle.gate_words.specs.declared.page.Page.{Page}
use Rattle.gate_words.specs.declared.place.Place.{Place}
use Rattle.gate_words.specs.declared.task.Task.{Task}
use Rattle.gate_words.specs.declared.task.Task.TheVariants.{Serve, Once, Store, Show, Check, Explain}
use Rattle.gate_machine.specs.Progress.{Bears}
use Rattle.store_causes.specs.declared.cause.StoreCause.{StoreCause}
use Rattle.store_causes.specs.Causes.{loses_link}
use Rattle.gate_serving.specs.declared.door.Door.{Door}
use Rattle.gate_serving.specs.declared.door.Door.TheVariants.{Bare, Http}
use Rattle.gate_serving.specs.declared.front.FrontError.{FrontError}
use Rattle.gate_serving.specs.declared.front.FrontError.TheVariants as front
use Rattle.gate_serving.specs.declared.outcomes.ClientOutcome.{ClientOutcome}
use Rattle.gate_serving.specs.GateState.{GateState}
use Rattle.gate_serving.specs.Requests.{Account}
use Rattle.gate_serving.specs.Run.{Opens, AddsSegment, IsServingRun, account_of, run_blamed}
use Rattle.gate_serving.specs.Segment.{blame_front, blamed}
use Rattle.gate_serving.proofs.Answering.{bears_none, bears_later, bears_earlier, later_same, bears_failed}
use Rattle.honest_store.specs.Sessions.{StoreSession}
use Rattle.small_answers.specs.Changes.{first_session}
use Rattle.store_sessions.specs.Clients.{ServesAll, ServesSessions}
use Rattle.gateway.specs.Program.{EndsCheck, EndsDone, EndsFailed, EndsOnce, EndsOne, EndsStore, IsAt, IsSaid, check_blamed, one_blamed, words_refused, Unopened, ServedMany, ServedOnce, StoreUnmade, ServedStore, ShownOne, CheckLacks, CheckedOne, Explained, Refused}
use Rattle.gateway.specs.Program.{OutOfMemory, Done, RunsShow, RunsExplain, RunsStore, TellsReport, Performs, IsWholeRun}
use Rattle.std.specs.declared.alloc.AllocError.{AllocError}
use Rattle.gateway.specs.declared.check.Report.{Report}
use Rattle.gateway.specs.Check.{IsReport, LacksReport, ReportsOn}

later_say : (was now : Faults) → SayAlone was now → Later was now
later_say was now alone = record { link = omega (arith, alone.link); keep = omega (arith, alone.keep); front = omega (arith, alone.front); say = alone.say }

-- a gate was opened, and answered one client
pub record Attends (place : Place) (secrets : Hidden) (was now : Faults) (how : ClientOutcome) (events : List Event) : Type 0 where
  pub opened : List Event
  pub segment : List Event
  pub before : GateState
  pub after : GateState
  pub opens : Opens (Some before) opened
  pub step : AddsSegment Bare (account_of place secrets) before after was now how segment
  pub whole : events ≡ opened ++ segment

-- a gate is opened at the place, and then answers one client, or none comes
pub attends : {place : Place} {secrets now_secrets : Hidden} {door : Door} {account : Account} {before after : GateState} {was mid now : Faults} {how : ClientOutcome} (xs ys : List Event)
    → door ≡ Bare → account ≡ account_of place secrets → now_secrets ≡ secrets → NoFault was mid → Opens (Some before) xs → AddsSegment door account before after mid now how ys
    → Attends place secrets was now how (xs ++ ys)
attends {place} {secrets} {door = door} {account = account} {before = before} {after = after} {was = was} {mid = mid} {now = now} {how = how} xs ys here same kept none opens step =
    let there : AddsSegment Bare (account_of place secrets) before after mid now how ys = subst (λ (a : Account). AddsSegment Bare a before after mid now how ys) same
    (subst (λ (d : Door). AddsSegment d account before after mid now how ys) here step) in
    record {
      opened = xs;
      segment = ys;
      before = before;
      after = after;
      opens = opens;
      step = record { segment = there.segment; bears = bears_earlier (blamed there.segment) was mid now (later_same was mid none) there.bears };
      whole = refl;
    }

-- the task `once`: a gate that answered one client, and what is said after it
pub performs_once : {place : Place} {secrets : Hidden} {was mid now : Faults} {how : ClientOutcome} {status : ℕ} {xs : List Event} (ys : List Event)
    → Attends place secrets was mid how xs → SayAlone mid now → EndsOnce how status ys → Performs (Once place) secrets was now status (xs ++ ys)
performs_once {place} {was = was} {mid = mid} {now = now} {how = how} ys a alone ends =
    record {
      blames = blamed a.step.segment;
      ran = ServedOnce place refl record {
        opening = a.opened;
        serving = a.segment;
        said = ys;
        before = a.before;
        after = a.after;
        how = how;
        opens = a.opens;
        segment = a.step.segment;
        ends = ends;
        blames_are = refl;
        whole = ap (λ (l : List Event). l ++ ys) a.whole;
      };
      bears = bears_later (blamed a.step.segment) was mid now a.step.bears (later_say mid now alone);
    }

-- a gate was opened, and answered clients over HTTP
pub record AttendsAll (place : Place) (secrets : Hidden) (most : ℕ) (was now : Faults) (status : ℕ) (events : List Event) : Type 0 where
  pub opened : List Event
  pub served : List Event
  pub before : GateState
  pub after : GateState
  pub opens : Opens (Some before) opened
  pub run : IsServingRun Http (account_of place secrets) before after most was now status served
  pub whole : events ≡ opened ++ served

-- a gate is opened at the place, and then answers clients over HTTP
pub attends_all : {place : Place} {secrets now_secrets : Hidden} {door : Door} {account : Account} {before after : GateState} {was mid now : Faults} {most status : ℕ}
    (xs ys : List Event)
    → door ≡ Http → account ≡ account_of place secrets → now_secrets ≡ secrets → NoFault was mid → Opens (Some before) xs
    → IsServingRun door account before after most mid now status ys
    → AttendsAll place secrets most was now status (xs ++ ys)
attends_all {place} {secrets} {door = door} {account = account} {before = before} {after = after} {was = was} {mid = mid} {now = now} {most = most}
    {status = status} xs ys here same
    kept none opens run =
    let there : IsServingRun Http (account_of place secrets) before after most mid now status ys =
    subst (λ (a : Account). IsServingRun Http a before after most mid now status ys) same
    (subst (λ (d : Door). IsServingRun d account before after most mid now status ys) here run) in
    record {
      opened = xs;
      served = ys;
      before = before;
      after = after;
      opens = opens;
      run = record { went = there.went; run = there.run; ends = there.ends; bears = bears_earlier (run_blamed there.run) was mid now (later_same was mid none) there.bears };
      whole = refl;
    }

-- the task `serve`: a gate that answered clients over HTTP, and what is said after them
pub performs_serve : {place : Place} {secrets : Hidden} {was mid now : Faults} {status : ℕ} {xs : List Event} (most : ℕ) (ys : List Event) (listen : List ℕ)
    → AttendsAll place secrets most was mid status xs → SayAlone mid now → EndsDone status ys ⊎ EndsFailed status ys
    → Performs (Serve place listen most) secrets was now status (xs ++ ys)
performs_serve {place} {was = was} {mid = mid} {now = now} most ys listen a alone ends =
    record {
      blames = run_blamed a.run.run;
      ran = ServedMany place listen most refl record {
        opening = a.opened;
        serving = a.served;
        said = ys;
        before = a.before;
        after = a.after;
        went = a.run.went;
        opens = a.opens;
        run = a.run.run;
        ends = (a.run.ends, ends);
        blames_are = refl;
        whole = ap (λ (l : List Event). l ++ ys) a.whole;
      };
      bears = bears_later (run_blamed a.run.run) was mid now a.run.bears (later_say mid now alone);
    }

-- a task whose gate isn't opened ends with status 5
pub performs_unopened : {secrets : Hidden} {was now : Faults} {events : List Event} (task : Task) (place : Place) → IsAt task place → NoFault was now
    → Opens None events → Performs task secrets was now 5 events
performs_unopened {was = was} {now = now} task place at same opens =
    record { blames = no_faults; ran = Unopened place at opens refl refl; bears = bears_none was now (later_same was now same) }

-- the task `store` where there was no memory for the store
pub performs_unmade : (most : ℕ) (was now : Faults) → now ≡ was → RunsStore most was now 5 []
performs_unmade most was now same listen secrets =
    record { blames = no_faults; ran = StoreUnmade listen most refl refl refl refl; bears = bears_none was now (later_same was now same) }

bears_failed_often : (failed : ℕ) (was mid now : Faults) → FrontAlone was mid → SayAlone mid now → RoseBy failed was.front mid.front
    → Bears (blame_front failed no_faults) was now
bears_failed_often failed was mid now front said rose = record {
  link = omega (arith, front.link, said.link);
  keep = omega (arith, front.keep, said.keep);
  front = omega (arith, rose, said.front);
  say = omega (arith, front.say, said.say);
}

-- the task `store`: clients are served, and then what is to be said is said
pub performs_store : {was mid now : Faults} {served status : ℕ} {s t : StoreSession} {xs : List Event} (most : ℕ) (ys : List Event) → s ≡ first_session
    → ServesAll s t most was.front mid.front served xs → FrontAlone was mid → SayAlone mid now → served ≡ status → EndsStore status ys
    → RunsStore most was now status (xs ++ ys)
performs_store {was} {mid} {now} {served} {status} {s} {t} {xs} most ys first serves front said same ends listen secrets = record {
  blames = blame_front serves.failed no_faults;
  ran = ServedStore listen most refl record {
    serving = xs;
    said = ys;
    failed = serves.failed;
    after = t;
    serves = subst (λ (n : ℕ). ServesSessions first_session most n serves.failed xs t) same
        (subst (λ (u : StoreSession). ServesSessions u most served serves.failed xs t) first serves.serves);
    ends = ends;
    blames_are = refl;
    whole = refl;
  };
  bears = bears_failed_often serves.failed was mid now front said serves.rose;
}

bears_one : (outcome : Result (Unit {0}) FrontError) (status : ℕ) (said : List Event) (was now : Faults) → Later was now → (status ≡ 6 → Rose was.front now.front)
    → EndsOne outcome status said
    → Bears (one_blamed outcome) was now
bears_one (Ok u) status said was now later failed ends = bears_none was now later
bears_one (Err front.Memory) status said was now later failed ends = bears_none was now later
bears_one (Err front.Failed) status said was now later failed ends = bears_failed was now later (failed ends.0)

-- the task `show`: one client is shown its message
pub performs_show : {secrets : Hidden} {was now : Faults} {status : ℕ} {events : List Event} → Later was now → (status ≡ 6 → Rose was.front now.front) → RunsShow status events
    → Performs Show secrets was now status events
performs_show {was = was} {now = now} {status = status} later failed (shown, said, outcome, is, shows, ends) =
    record {
      blames = one_blamed outcome;
      ran = ShownOne refl record { shown = shown; said = said; outcome = outcome; shows = shows; ends = ends; blames_are = refl; whole = is };
      bears = bears_one outcome status said was now later failed ends;
    }

-- the task that asks for a page of help: one client is told it
pub performs_explain : {secrets : Hidden} {was now : Faults} {status : ℕ} {events : List Event} (page : Page) → Later was now → (status ≡ 6 → Rose was.front now.front)
    → RunsExplain (page_text page) status events
    → Performs (Explain page) secrets was now status events
performs_explain {was = was} {now = now} {status = status} page later failed (explained, said, outcome, is, explains, ends) =
    record {
      blames = one_blamed outcome;
      ran = Explained page refl
          record { explained = explained; said = said; outcome = outcome; explains = explains; ends = ends; blames_are = refl; whole = is };
      bears = bears_one outcome status said was now later failed ends;
    }

-- the task that checks a store: one client is told the report
blames_lost : (lost : Bool) (was now : ℕ) → was ≤ now → (lost ≡ true → Rose was now) → RoseBy (0 + (if lost then 1 else 0)) was now
blames_lost true was now later rose = omega (arith, rose refl)
blames_lost false was now later rose = omega (arith, later)

with_lost : {was now : Faults} (cause : Option StoreCause) (outcome : Result (Unit {0}) FrontError) → Later was now → (loses_link cause ≡ true → Rose was.link now.link)
    → (one_blamed outcome).link ≡ 0 → Bears (one_blamed outcome) was now → Bears (check_blamed cause outcome) was now
with_lost {was} {now} cause outcome later lost none bears = record {
  link = subst (λ (n : ℕ). RoseBy (n + (if loses_link cause then 1 else 0)) was.link now.link) (sym none) (blames_lost (loses_link cause) was.link now.link later.link lost);
  keep = bears.keep;
  front = bears.front;
  say = bears.say;
}

bears_check : (found : ℕ) (cause : Option StoreCause) (outcome : Result (Unit {0}) FrontError) (status : ℕ) (said : List Event) (was now : Faults) → Later was now
    → (loses_link cause ≡ true → Rose was.link now.link) → (status ≡ 6 → Rose was.front now.front) → EndsCheck found outcome status said
    → Bears (check_blamed cause outcome) was now
bears_check found cause (Ok u) status said was now later lost failed ends = with_lost cause (Ok u) later lost refl (bears_none was now later)
bears_check found cause (Err front.Memory) status said was now later lost failed ends = with_lost cause (Err front.Memory) later lost refl (bears_none was now later)
bears_check found cause (Err front.Failed) status said was now later lost failed ends =
    with_lost cause (Err front.Failed) later lost refl (bears_failed was now later (failed ends.0))

rose_later : (was mid now : ℕ) → mid ≤ now → Rose was mid → Rose was now
rose_later was mid now later rose = omega (arith, later, rose)

pub later_link : (was mid now : Faults) → LinkAlone was mid → Later mid now → Later was now
later_link was mid now alone later = record {
  link = omega (arith, alone.link, later.link);
  keep = omega (arith, alone.keep, later.keep);
  front = omega (arith, alone.front, later.front);
  say = omega (arith, alone.say, later.say);
}

pub rose_link : (was mid now : Faults) → LinkAlone was mid → Rose mid.front now.front → Rose was.front now.front
rose_link was mid now alone rose = subst (λ (n : ℕ). Rose n now.front) alone.front rose

pub performs_check : {store user : List ℕ} {secrets : Hidden} {was mid now : Faults} {found status : ℕ} {text : List ℕ} {xs : List Event} (ys : List Event)
    → (report : IsReport store user secrets.password text found xs) → (loses_link report.checked.cause ≡ true → Rose was.link mid.link) → LinkAlone was mid → Later mid now → (status ≡ 6 → Rose mid.front now.front) → TellsReport text found status ys
    → Performs (Check store user) secrets was now status (xs ++ ys)
performs_check {store} {user} {secrets} {was} {mid} {now} {found} {status} {text} {xs} ys report lost alone later failed (telling, said, outcome, is, explains, ends) =
    record {
      blames = check_blamed report.checked.cause outcome;
      ran = CheckedOne store user refl record {
        checking = xs;
        telling = telling;
        said = said;
        text = text;
        found = found;
        outcome = outcome;
        report = report;
        explains = explains;
        ends = ends;
        blames_are = refl;
        whole = ap (λ (l : List Event). xs ++ l) is;
      };
      bears = bears_check found report.checked.cause outcome status said was now (later_link was mid now alone later)
          (λ loses. rose_later was.link mid.link now.link later.link (lost loses)) (λ six. rose_link was mid now alone (failed six)) ends;
    }

-- no report was made
pub lacks_report : {events : List Event} (store user password : List ℕ) (was now : Faults) (made : Result Report AllocError) (f : AllocError) → made ≡ Err f
    → LacksReport user password events → ReportsOn store user password was now made events
lacks_report {events} store user password was now made f is lacks =
    subst (λ (r : Result Report AllocError). ReportsOn store user password was now r events) (sym is) lacks

-- and memory ran out before that
pub lacks_check : {store user : List ℕ} {secrets : Hidden} {was now : Faults} {xs : List Event} → LacksReport user secrets.password xs → LinkAlone was now
    → Performs (Check store user) secrets was now 5 xs
lacks_check {store} {user} {was = was} {now} lacks alone =
    record {
      blames = no_faults;
      ran = CheckLacks store user refl lacks refl refl;
      bears = bears_none was now (record { link = alone.link; keep = omega (arith, alone.keep); front = omega (arith, alone.front); say = omega (arith, alone.say) });
    }

-- the check of a store and a user that are named by these texts
pub check_named : {store user named used : List ℕ} {secrets : Hidden} {was now : Faults} {status : ℕ} {events : List Event} → named ≡ store → used ≡ user
    → Performs (Check named used) secrets was now status events → Performs (Check store user) secrets was now status events
check_named {secrets = secrets} {was} {now} {status} {events} same same_user performs =
    subst (λ (t : Task). Performs t secrets was now status events) (λ i. Check (same i) (same_user i)) performs

-- a run over words that are a task is what the task adds
pub runs_task : {words : List (List ℕ)} {task : Task} {secrets : Hidden} {was now : Faults} {status : ℕ} {events : List Event} → IsTask words task
    → Performs task secrets was now status events
    → IsWholeRun words secrets was now status events
runs_task {task = task} is p = record { blames = p.blames; runs = Done task is p.ran; bears = p.bears }

-- a run over words that are no task ends with status 2, and says so
pub runs_refused : {words : List (List ℕ)} {secrets : Hidden} {was now : Faults} {status : ℕ} {events : List Event} → ((task : Task) → IsTask words task → ⊥)
    → SayAlone was now → status ≡ 2 → IsSaid words_refused events → IsWholeRun words secrets was now status events
runs_refused {was = was} {now = now} none alone two said =
    record { blames = no_faults; runs = Refused none two said refl; bears = bears_none was now (later_say was now alone) }

-- a run whose memory ran out at once ends with status 5, and adds no event
pub runs_lacking : {words : List (List ℕ)} {secrets : Hidden} (f : Faults) → IsWholeRun words secrets f f 5 []
runs_lacking f = record { blames = no_faults; runs = OutOfMemory refl refl refl; bears = bears_none f f (later_same f f refl) }
