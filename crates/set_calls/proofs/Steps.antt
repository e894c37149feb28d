-- An item of a call after those before it.
use Rattle.std.proofs.Common.{◌≡◌, ◌≢◌, ◌+◌, ◌++◌, inl, inr, ℕ, Bool, false, IfOk, OnErr, List, [], ◌∷◌, fold, map, Option, Some, None, Result, Ok, Err, Vec, refl, sym, ◌∙◌, ap, subst, arith}
use Rattle.std.proofs.lemmas.List.{append-nil, map-append}
use Rattle.std.specs.declared.alloc.AllocError.{AllocError}
use Rattle.std.specs.declared.alloc.Global.{Global}
use Rattle.gate_world.specs.Causes.{Faults, NoFault, RoseBy}
use Rattle.gate_world.specs.Tape.{Adds}
use Rattle.gate_world.proofs.Joins.{widen}
use Rattle.gate_world.specs.declared.event.Event.{Event}
use Rattle.told_folder.specs.declared.exchange.Exchange.{Exchange}
use Rattle.told_mail.specs.Mail.{Mail, IsMail, IsNextMail}
use Rattle.told_mail.specs.Told.{Told}
use Rattle.imap_client.specs.LinkLife.{ClientState, LinkLife, Stands}
use Rattle.imap_client.specs.Rounds.{CountsOn}
use Rattle.set_jobs.specs.declared.done.Done.{Done}
use Rattle.set_jobs.specs.declared.done.Done.TheVariants.{Not}
use Rattle.set_jobs.specs.declared.done.SetError.{SetError}
use Rattle.set_jobs.specs.declared.job.Job.{Job}
use Rattle.set_order.specs.Ordered as spec
use Rattle.set_order.specs.declared.item.Item.{Item}
use Rattle.set_order.specs.reading.Items.{item_data}
use Rattle.set_given.specs.Given.{MadeFolders as Made}
use Rattle.set_given.specs.declared.made.MadeFolders.{MadeFolders}
use Rattle.set_given.specs.reading.Makings.{IsMade}
use Rattle.set_items.specs.declared.item.ItemEnd.{ItemEnd}
use Rattle.set_items.specs.declared.item.ItemEnd.TheVariants.{Comes, OutOfMemory}
use Rattle.set_items.specs.Ends.{any_change}
use Rattle.set_items.specs.declared.stage.ItemStage.{ItemStage}
use Rattle.set_items.specs.Items.{item_at, item_start}
use Rattle.set_items.specs.Ends.{item_end}
use Rattle.set_items.specs.Talks.{AllReadKnown, IsItemDone, ending_of, fault_in, has_changed}
use Rattle.set_methods.specs.Checks.{Checks, Drawn, Makes, NeedsDraw}
use Rattle.set_methods.specs.declared.checks.Passed.TheVariants.{Steps}
use Rattle.told_changes.specs.Told.{told}
use Rattle.imap_exchange.specs.declared.link_end.LinkEnd.{LinkEnd}
use Rattle.imap_exchange.specs.declared.link_end.LinkEnd.TheVariants as end
use Rattle.set_calls.specs.Calls.{SetCall, CallState, DoesItems, NoItems, MoreItems, RunsItems, AllDone, Stopped, Wanting, StepsItem, TakesItem, Refused, Stepped, IsDrawnFor, IsPrepared, call_begun, drawing, given_at, items_of, made_with}
use Rattle.set_calls.specs.declared.call.Call.{Call}
use Rattle.set_calls.specs.declared.call.CallEnd.{CallEnd}
use Rattle.set_calls.specs.declared.call.CallEnd.TheVariants as ends
use Rattle.set_calls.specs.reading.Calling.{IsAt, IsCall, IsPreparedSo, ItemCame, Leaves, call_end, came_data, came_end, done_data}

-- ---- steps

-- what is known of an item's steps
abbrev pub StepsSay : Job → ClientState → ClientState → Told → Told → Bool → Bool → ℕ → ℕ → ItemEnd → List Event → Type 0
StepsSay job client now_client mirror told_now changed now_changed was now ended es =
    (life : LinkLife) → Stands client life → (call : List Exchange) → any_change call ≡ changed → (left : LinkLife)
    × IsItemDone job call mirror told_now life left now_client ended now_changed was now es

has_memory : (came : Result Done CallEnd) → came ≢ Err ends.Memory → came_end came ≢ OutOfMemory
has_memory (Ok done) some is = absurd (cc is)
has_memory (Err (ends.Fails e)) some is = absurd (cc is)
has_memory (Err ends.Memory) some is = some refl

comes : (done : Done) → Comes done ≢ OutOfMemory
comes done is = absurd (cc is)

changed_where : (came : Result Done CallEnd) (before after : Bool) → (came_end came ≢ OutOfMemory → after ≡ before) → IfOk came (λ done. before ≡ after)
changed_where (Ok done) before after so = sym (so (comes done))
changed_where (Err e) before after so = tt

-- where memory didn't run out in an item, it didn't in its plan
ran_with_memory : (ended : ItemEnd) (stage : ItemStage) (result : Result (Unit {0}) LinkEnd) (changed : Bool) → ended ≡ item_end stage result changed → ended ≢ OutOfMemory
    → result ≢ Err end.Memory
ran_with_memory ended stage result changed is some lacks = some (is ∙ ap (λ (r : Result (Unit {0}) LinkEnd). item_end stage r changed) lacks)

-- so the item's steps are the next ones of a call
pub steps_next : (job : Job) (client now_client : ClientState) (mirror told_now : Told) (changed now_changed : Bool) (was now : ℕ) (came : Result Done CallEnd) (es : List Event)
    → StepsSay job client now_client mirror told_now changed now_changed was now (came_end came) es → (item : spec.Item) (s : CallState) → Stands client s.life → s.mail ≡ mirror.mail
    → any_change s.exchanges ≡ changed
    → (after : CallState) × StepsItem item job s (came_end came) es after × Leaves now_client mirror told_now now_changed came was now s after
steps_next job client now_client mirror told_now changed now_changed was now came es says item s stands mail_is changed_is =
    let here : mirror ≡ record { mail = s.mail; changes = mirror.changes } = ap (λ (m : Mail). record { mail = m; changes = mirror.changes }) (sym mail_is) in
    let own : StepsSay job client now_client (record { mail = s.mail; changes = mirror.changes }) told_now changed now_changed was now (came_end came) es =
    subst (λ (t : Told). StepsSay job client now_client t told_now changed now_changed was now (came_end came) es) here says in
    let t = own s.life stands s.exchanges changed_is in
    let d = t.1 in
    let xs : List Exchange = d.does.runs.exchanges in
    let after : CallState = record {
      mail = told_now.mail;
      life = t.0;
      exchanges = s.exchanges ++ xs;
      made = made_with s.made item (came_end came);
      lost = s.lost + fault_in s.life.goes_on t.0.goes_on d.does.runs.result;
    } in (
      after,
      record { client = now_client; does = d.does; exchanges_are = refl; made_is = refl; lost_is = refl },
      record {
        stands = d.does.runs.follows.stands;
        mail_is = refl;
        changed_is = changed_where came (any_change after.exchanges) now_changed d.changed_is;
        own = xs;
        own_is = refl;
        told_is = λ some. d.does.told_is (ran_with_memory (came_end came) (item_at (item_start job s.mail) xs).stage d.does.runs.result (has_changed (ending_of s.exchanges d.does.runs)) d.does.ends_is (has_memory came some));
        counted = λ some known. d.known (has_memory came some) known;
        lost = fault_in s.life.goes_on t.0.goes_on d.does.runs.result;
        lost_is = refl;
        rose = d.rose;
      },
    )

-- the same of what the tape was told
pub steps_added : {a b : Option (List Event)} (job : Job) (client now_client : ClientState) (mirror told_now : Told) (changed now_changed : Bool) (was now : ℕ) (came : Result Done CallEnd)
    → Adds a b (StepsSay job client now_client mirror told_now changed now_changed was now (came_end came))
    → Adds a b (λ es. (item : spec.Item) (s : CallState) → Stands client s.life → s.mail ≡ mirror.mail → any_change s.exchanges ≡ changed
    → (after : CallState) × StepsItem item job s (came_end came) es after × Leaves now_client mirror told_now now_changed came was now s after)
steps_added job client now_client mirror told_now changed now_changed was now came says =
    widen _ says (λ es so. steps_next job client now_client mirror told_now changed now_changed was now came es so)

-- ---- an item

never_comes : (e : CallEnd) (done : Done) → call_end e ≢ Comes done
never_comes (ends.Fails e) done is = absurd (cc is)
never_comes ends.Memory done is = absurd (cc is)

-- an item whose steps are known came to what they came to
steps_came : (c : SetCall) (item : spec.Item) (drawn : Option Drawn) (job : Job) (s after : CallState) (came : Result Done CallEnd) (es fs : List Event)
    → IsPrepared c s item drawn (Ok job) → es ≡ drawing drawn → StepsItem item job s (came_end came) fs after → ItemCame c item s came (es ++ fs) after
steps_came c item drawn job s after (Ok done) es fs is drew steps = Stepped drawn job fs is steps (ap (λ (l : List Event). l ++ fs) drew)
steps_came c item drawn job s after (Err e) es fs is drew steps =
    inl (record {
      drawn = drawn;
      job = job;
      doing = fs;
      is_prepared = is;
      steps = steps;
      events_are = ap (λ (l : List Event). l ++ fs) drew;
      not_done = never_comes e;
    })

rose_none : (n : ℕ) → RoseBy 0 n n
rose_none n = omega arith

if_ok : (came : Result Done CallEnd) (b c : Bool) → b ≡ c → IfOk came (λ done. b ≡ c)
if_ok (Ok done) b c is = is
if_ok (Err e) b c is = tt

rose_same : (was now : ℕ) → now ≡ was → RoseBy 0 was now
rose_same was now same = subst (λ (n : ℕ). RoseBy 0 was n) (sym same) (rose_none was)

-- nothing was done
stays : (client : ClientState) (mirror : Told) (made : MadeFolders) (changed : Bool) (came : Result Done CallEnd) (was now : ℕ) (s : CallState) → now ≡ was
    → IsAt client mirror.mail made changed s → Leaves client mirror mirror changed came was now s s
stays client mirror made changed came was now s same at =
    record {
      stands = at.stands;
      mail_is = at.mail_is;
      changed_is = if_ok came (any_change s.exchanges) changed at.changed_is;
      own = [];
      own_is = sym (append-nil s.exchanges);
      told_is = λ some. refl;
      counted = λ some known. refl;
      lost = 0;
      lost_is = omega arith;
      rose = rose_same was now same;
    }

-- nothing was drawn for an item whose steps are known, or that its checks refuse
pub prepared_at_once : (c : SetCall) (s : CallState) (item : spec.Item) (job : Job) → Checks c.rules (given_at c s) item (Ok (Steps job))
    → IsPreparedSo c s item (Ok (Ok job)) []
prepared_at_once c s item job checks = record { drawn = None; events_are = refl; is = checks; lacks = tt }

pub refused_at_once : (c : SetCall) (s : CallState) (item : spec.Item) (e : SetError) → Checks c.rules (given_at c s) item (Err e) → IsPreparedSo c s item (Ok (Err e)) []
refused_at_once c s item e checks = record { drawn = None; events_are = refl; is = checks; lacks = tt }

pub lacks_at_once : (c : SetCall) (s : CallState) (item : spec.Item) (e : AllocError) → IsPreparedSo c s item (Err e) []
lacks_at_once c s item e = record { drawn = None; events_are = refl; is = tt; lacks = tt }

-- its steps are made of what was drawn
pub prepared_of_drawn : (c : SetCall) (s : CallState) (item : spec.Item) (drawn : Drawn) (came : Result (Result Job SetError) AllocError)
    (needs : NeedsDraw c.rules (given_at c s) item) → IfOk came (λ made. Makes needs.0 drawn made) → IsPreparedSo c s item came (drawing (Some drawn))
prepared_of_drawn c s item drawn (Ok made) needs so = record { drawn = Some drawn; events_are = refl; is = (needs.0, needs.1, so); lacks = tt }
prepared_of_drawn c s item drawn (Err e) needs so = record { drawn = Some drawn; events_are = refl; is = tt; lacks = needs }

-- no part of the outside has failed, so the link hasn't
link_same : (before after : Faults) → NoFault before after → after.link ≡ before.link
link_same before after same = ap (λ (f : Faults). f.link) same

-- what is known of an item before a command is sent for it
abbrev pub PreparesSay : Call → ClientState → Mail → MadeFolders → spec.Item → Result (Result Job SetError) AllocError → List Event → Type 0
PreparesSay call client mail made item came es =
    (c : SetCall) (s : CallState) (changed : Bool) → IsCall call c → IsAt client mail made changed s → IsPreparedSo c s item came es

-- and of an item in its call
abbrev pub ItemSays : Call → ClientState → ClientState → Told → Told → MadeFolders → Bool → Bool → ℕ → ℕ → spec.Item → Result Done CallEnd → List Event → Type 0
ItemSays call client now_client mirror told_now made changed now_changed was now item came es =
    (c : SetCall) (s : CallState) → IsCall call c → IsAt client mirror.mail made changed s
    → (after : CallState) × ItemCame c item s came es after × Leaves now_client mirror told_now now_changed came was now s after

module _ (call : Call) (client : ClientState) (mirror : Told) (made : MadeFolders) (changed : Bool) (item : spec.Item) (prepared : Result (Result Job SetError) AllocError)
    (was mid : Faults) (same : NoFault was mid) where
  -- it is refused
  pub refused : (e : SetError) (es : List Event) → prepared ≡ Ok (Err e) → PreparesSay call client mirror.mail made item prepared es
      → ItemSays call client client mirror mirror made changed changed was.link mid.link item (Ok (Not e)) es
  refused e es is says c s here at =
      let p = says c s changed here at in
      let came : IsPrepared c s item p.drawn (Err e) = subst (λ (r : Result (Result Job SetError) AllocError). IfOk r (λ made. IsPrepared c s item p.drawn made)) is p.is in
      (s, Refused p.drawn e came refl p.events_are refl, stays client mirror made changed (Ok (Not e)) was.link mid.link s (link_same was mid same) at)

  -- there was no memory before a command was sent for it
  pub unprepared : (e : AllocError) (came : Result Done CallEnd) (es : List Event) → prepared ≡ Err e → came ≡ Err ends.Memory
      → PreparesSay call client mirror.mail made item prepared es → ItemSays call client client mirror mirror made changed changed was.link mid.link item came es
  unprepared e came es is lacks says c s here at =
      let p = says c s changed here at in
      let draws : IsDrawnFor c s (item ∷ []) p.drawn = subst (λ (r : Result (Result Job SetError) AllocError). OnErr r (IsDrawnFor c s (item ∷ []) p.drawn)) is p.lacks in
      subst (λ (r : Result Done CallEnd). (after : CallState) × ItemCame c item s r es after × Leaves client mirror mirror changed r was.link mid.link s after) (sym lacks) (
        s,
        inr (refl, record { drawn = p.drawn; draws = draws; events_are = p.events_are; same = refl }),
        stays client mirror made changed (Err ends.Memory) was.link mid.link s (link_same was mid same) at,
      )

  -- its steps are done
  pub stepped : (job : Job) (now_client : ClientState) (told_now : Told) (now_changed : Bool) (now : ℕ) (came : Result Done CallEnd) (es fs : List Event) → prepared ≡ Ok (Ok job)
      → PreparesSay call client mirror.mail made item prepared es
      → ((i : spec.Item) (s : CallState) → Stands client s.life → s.mail ≡ mirror.mail → any_change s.exchanges ≡ changed
      → (after : CallState) × StepsItem i job s (came_end came) fs after × Leaves now_client mirror told_now now_changed came mid.link now s after)
      → ItemSays call client now_client mirror told_now made changed now_changed was.link now item came (es ++ fs)
  stepped job now_client told_now now_changed now came es fs is says does c s here at =
      let p = says c s changed here at in
      let steps : IsPrepared c s item p.drawn (Ok job) = subst (λ (r : Result (Result Job SetError) AllocError). IfOk r (λ made. IsPrepared c s item p.drawn made)) is p.is in
      let t = does item s at.stands at.mail_is at.changed_is in (
        t.0,
        steps_came c item p.drawn job s t.0 came es fs steps p.events_are t.1,
        subst (λ (n : ℕ). Leaves now_client mirror told_now now_changed came n now s t.0) (link_same was mid same) t.2,
      )

-- ---- mail that stays, and counts of what changed in it

pub next_same : (m : Mail) → IsMail m → IsNextMail m m
next_same m is = record { is_mail = is; counter = omega arith; new_folders = λ n f found none. absurd (cc (found, none)) }

pub counts_same : (t : Told) → CountsOn t t
counts_same t = record { rises = omega arith; stands = λ same end. refl }

pub counts_join : {a b c : Told} → CountsOn a b → CountsOn b c → CountsOn a c
counts_join {a} {b} {c} one two =
    record {
      rises = omega (arith, one.rises, two.rises);
      stands = λ same end. two.stands (omega (arith, one.rises, two.rises, same)) end ∙ one.stands (omega (arith, one.rises, two.rises, same)) (omega (arith, one.rises, two.rises, same, end));
    }

fold_more : (m : Mail) (xs ys : List Exchange) → fold told m (xs ++ ys) ≡ fold told (fold told m xs) ys
fold_more m [] ys = refl
fold_more m (x ∷ xs) ys = fold_more (told m x) xs ys

known_apart : (m : Mail) (xs ys : List Exchange) → AllReadKnown m (xs ++ ys) → AllReadKnown m xs × AllReadKnown (fold told m xs) ys
known_apart m [] ys all = (tt, all)
known_apart m (x ∷ xs) ys (reads, known, rest) = let t = known_apart (told m x) xs ys rest in ((reads, known, t.0), t.1)

-- what was known by the exchanges of a call before an item, and by those of the item
known_in : (mail : Mail) (s after : CallState) (own : List Exchange) → s.mail ≡ fold told mail s.exchanges → after.exchanges ≡ s.exchanges ++ own
    → AllReadKnown mail after.exchanges → AllReadKnown mail s.exchanges × AllReadKnown s.mail own
known_in mail s after own told_is own_is all =
    let t = known_apart mail s.exchanges own (subst (λ (xs : List Exchange). AllReadKnown mail xs) own_is all) in
    (t.0, subst (λ (m : Mail). AllReadKnown m own) (sym told_is) t.1)

-- ---- items in order

rose_more : (b k was mid now : ℕ) → RoseBy b was mid → RoseBy k mid now → RoseBy (b + k) was now
rose_more b k was mid now first next = omega (arith, first, next)

not_made : (made : Made) (item : spec.Item) (e : SetError) → made ≡ made_with made item (Comes (Not e))
not_made made (spec.Create key ms) e = refl
not_made made (spec.Circle key) e = refl
not_made made (spec.Update text patch) e = refl
not_made made (spec.Destroy text) e = refl

made_after : (c : SetCall) (item : spec.Item) (s after : CallState) (done : Done) (es : List Event) → TakesItem c item s done es after
    → after.made ≡ made_with s.made item (Comes done)
made_after c item s after done es (Refused drawn e is came events_are same) =
    ap (λ (t : CallState). t.made) same ∙ not_made s.made item e ∙ ap (λ (d : Done). made_with s.made item (Comes d)) (sym came)
made_after c item s after done es (Stepped drawn job doing is steps events_are) = steps.made_is

-- what was drawn was for the first of the items that are left
drawn_first : (c : SetCall) (s : CallState) (item : spec.Item) (later : List spec.Item) (drawn : Option Drawn) → IsDrawnFor c s (item ∷ []) drawn
    → IsDrawnFor c s (item ∷ later) drawn
drawn_first c s item later None draws = tt
drawn_first c s item later (Some d) draws = draws

done_has_memory : (done : Done) → Ok done ≢ Err ends.Memory
done_has_memory done is = absurd (cc is)

end_has_memory : (e : CallEnd) → (came_data (Err e) ≢ Err OutOfMemory) → (came : Result Done CallEnd) → came ≡ Err e → came ≢ Err ends.Memory
end_has_memory (ends.Fails e) some came is lacks = absurd (cc (is, lacks))
end_has_memory ends.Memory some came is lacks = some refl

module _ (call : Call) (client : ClientState) (first : Told) (was : ℕ) where
  -- the items so far, by what was told meanwhile
  abbrev pub SoFar : ClientState → Told → MadeFolders → Bool → List (Item × Done) → ℕ → List Event → Type 0
  SoFar now_client mirror made changed done now es = (c : SetCall) (life : LinkLife) → IsCall call c → Stands client life → (s : CallState)
      × DoesItems c (call_begun first.mail life) (map done_data done) es s × IsAt now_client mirror.mail made changed s × RoseBy s.lost was now
      × (s.mail ≡ fold told first.mail s.exchanges) × (AllReadKnown first.mail s.exchanges → mirror.changes ≡ first.changes)

  -- what is known of the next one
  abbrev pub NextSays : ClientState → Told → MadeFolders → Bool → ClientState → Told → Bool → ℕ → ℕ → spec.Item → Result Done CallEnd → List Event → Type 0
  NextSays at mirror made changed now_client told_now now_changed before now item came es =
      ItemSays call at now_client mirror told_now made changed now_changed before now item came es

  -- what the whole is said to be
  abbrev pub Whole : List spec.Item → Result (Vec (Item × Done) Global) CallEnd → ClientState → Told → ℕ → List Event → Type 0
  Whole items came now_client told_now now es = (c : SetCall) (life : LinkLife) → IsCall call c → Stands client life → (after : CallState)
      × RunsItems c items (call_begun first.mail life) (came_data came) es after × Stands now_client after.life × (after.mail ≡ told_now.mail)
      × (came_data came ≢ Err OutOfMemory → AllReadKnown first.mail after.exchanges → told_now.changes ≡ first.changes) × RoseBy after.lost was now

  pub begins : (made : MadeFolders) → IsMade made [] → SoFar client first made false [] was []
  begins made none c life is stands =
      (call_begun first.mail life, NoItems, record { stands = stands; mail_is = refl; made_is = none; changed_is = refl }, rose_none was, refl, λ all. refl)

  -- all are done
  pub all_done : (items : List spec.Item) (done : Vec (Item × Done) Global) (now_client : ClientState) (told_now : Told) (made : MadeFolders) (changed : Bool) (now : ℕ) (es : List Event)
      → items_of (map done_data done.items) ≡ items → SoFar now_client told_now made changed done.items now es → Whole items (Ok done) now_client told_now now es
  all_done items done now_client told_now made changed now es all so c life is stands =
      let t = so c life is stands in
      (t.0, AllDone (map done_data done.items) t.1 all refl, t.2.stands, t.2.mail_is, (λ some known. t.5 known), t.3)

  -- there is no memory for more
  pub wants : (items later : List spec.Item) (done : List (Item × Done)) (now_client : ClientState) (told_now : Told) (made : MadeFolders) (changed : Bool) (now : ℕ)
      (came : Result (Vec (Item × Done) Global) CallEnd) (es : List Event) → items_of (map done_data done) ++ later ≡ items → came ≡ Err ends.Memory
      → SoFar now_client told_now made changed done now es → Whole items came now_client told_now now es
  wants items later done now_client told_now made changed now came es all lacks so c life is stands =
      let t = so c life is stands in
      let came_is : came_data came ≡ Err OutOfMemory = ap came_data lacks in
      (t.0, Wanting (map done_data done) later es None t.1 tt all (sym (append-nil es)) came_is, t.2.stands, t.2.mail_is, (λ some known. absurd (some came_is)), t.3)

  -- what is so of a call after an item more, whatever is noted of it
  record After (done : List (Item × Done)) (c : SetCall) (life : LinkLife) (s : CallState) (now_client : ClientState) (told_now : Told) (now_changed : Bool) (now : ℕ)
      (events : List Event) : Type 0 where
    course : DoesItems c (call_begun first.mail life) (map done_data done) events s
    stands : Stands now_client s.life
    mail_is : s.mail ≡ told_now.mail
    changed_is : any_change s.exchanges ≡ now_changed
    rose : RoseBy s.lost was now
    told_is : s.mail ≡ fold told first.mail s.exchanges
    counted : AllReadKnown first.mail s.exchanges → told_now.changes ≡ first.changes

  after_one : (done : List (Item × Done)) (item : Item) (came : Done) (mirror : Told) (now_client : ClientState) (told_now : Told) (now_changed : Bool) (before now : ℕ)
      (es fs : List Event) (c : SetCall) (life : LinkLife) (s after : CallState) → DoesItems c (call_begun first.mail life) (map done_data done) es s → RoseBy s.lost was before
      → s.mail ≡ fold told first.mail s.exchanges → (AllReadKnown first.mail s.exchanges → mirror.changes ≡ first.changes)
      → TakesItem c (item_data item) s came fs after → Leaves now_client mirror told_now now_changed (Ok came) before now s after
      → After (done ++ (item, came) ∷ []) c life after now_client told_now now_changed now (es ++ fs)
  after_one done item came mirror now_client told_now now_changed before now es fs c life s after course rose told_is counted takes v =
      let whole : map done_data done ++ (item_data item, came) ∷ [] ≡ map done_data (done ++ (item, came) ∷ []) = sym (map-append done_data done ((item, came) ∷ [])) in
      record {
        course = subst (λ (d : List (spec.Item × Done)). DoesItems c (call_begun first.mail life) d (es ++ fs) after) whole
            (MoreItems (record { item = item_data item; done = came; events = fs; after = after; takes = takes }) course);
        stands = v.stands;
        mail_is = v.mail_is;
        changed_is = v.changed_is;
        rose = subst (λ (k : ℕ). RoseBy k was now) (sym v.lost_is) (rose_more s.lost v.lost was before now rose v.rose);
        told_is = v.told_is (done_has_memory came) ∙ ap (λ (m : Mail). fold told m v.own) told_is ∙ sym (fold_more first.mail s.exchanges v.own)
            ∙ ap (λ (xs : List Exchange). fold told first.mail xs) (sym v.own_is);
        counted = λ all. let k = known_in first.mail s after v.own told_is v.own_is all in v.counted (done_has_memory came) k.1 ∙ counted k.0;
      }

  -- one item more
  pub one_more : (done : List (Item × Done)) (item : Item) (came : Done) (at : ClientState) (mirror : Told) (made noted : MadeFolders) (changed : Bool) (now_client : ClientState)
      (told_now : Told) (now_changed : Bool) (before now : ℕ) (es fs : List Event) → ((m : Made) → IsMade made m → IsMade noted (made_with m (item_data item) (Comes came)))
      → SoFar at mirror made changed done before es → NextSays at mirror made changed now_client told_now now_changed before now (item_data item) (Ok came) fs
      → SoFar now_client told_now noted now_changed (done ++ (item, came) ∷ []) now (es ++ fs)
  one_more done item came at mirror made noted changed now_client told_now now_changed before now es fs notes so says c life is stands =
      let t = so c life is stands in
      let n = says c t.0 is t.2 in
      let o = after_one done item came mirror now_client told_now now_changed before now es fs c life t.0 n.0 t.1 t.3 t.4 t.5 n.1 n.2 in
      let made_is : made_with t.0.made (item_data item) (Comes came) ≡ n.0.made = sym (made_after c (item_data item) t.0 n.0 came fs n.1) in (
        n.0,
        o.course,
        record {
          stands = o.stands;
          mail_is = o.mail_is;
          made_is = subst (λ (m : Made). IsMade noted m) made_is (notes t.0.made t.2.made_is);
          changed_is = o.changed_is;
        },
        o.rose,
        o.told_is,
        o.counted,
      )

  -- an item is done, and there is no memory for what comes after it
  pub wants_after : (items later : List spec.Item) (done : List (Item × Done)) (item : Item) (came : Done) (at : ClientState) (mirror : Told) (made : MadeFolders) (changed : Bool)
      (now_client : ClientState) (told_now : Told) (now_changed : Bool) (before now : ℕ) (result : Result (Vec (Item × Done) Global) CallEnd) (es fs : List Event)
      → items_of (map done_data (done ++ (item, came) ∷ [])) ++ later ≡ items → result ≡ Err ends.Memory
      → SoFar at mirror made changed done before es → NextSays at mirror made changed now_client told_now now_changed before now (item_data item) (Ok came) fs
      → Whole items result now_client told_now now (es ++ fs)
  wants_after items later done item came at mirror made changed now_client told_now now_changed before now result es fs all lacks so says c life is stands =
      let t = so c life is stands in
      let n = says c t.0 is t.2 in
      let o = after_one done item came mirror now_client told_now now_changed before now es fs c life t.0 n.0 t.1 t.3 t.4 t.5 n.1 n.2 in
      let result_is : came_data result ≡ Err OutOfMemory = ap came_data lacks in
      (n.0, Wanting (map done_data (done ++ (item, came) ∷ [])) later (es ++ fs) None o.course tt all (sym (append-nil (es ++ fs))) result_is, o.stands, o.mail_is, (λ some known. absurd (some result_is)), o.rose)

  -- the next one ends the call, or there is no memory for it
  pub stops : (items later : List spec.Item) (done : List (Item × Done)) (item : spec.Item) (e : CallEnd) (taken : Result Done CallEnd) (came : Result (Vec (Item × Done) Global) CallEnd)
      (at : ClientState) (mirror : Told) (made : MadeFolders) (changed : Bool) (now_client : ClientState) (told_now : Told) (now_changed : Bool) (before now : ℕ) (es fs : List Event)
      → items_of (map done_data done) ++ item ∷ later ≡ items → taken ≡ Err e → came ≡ Err e
      → SoFar at mirror made changed done before es → NextSays at mirror made changed now_client told_now now_changed before now item taken fs
      → Whole items came now_client told_now now (es ++ fs)
  stops items later done item e taken came at mirror made changed now_client told_now now_changed before now es fs all taken_is came_is so says c life is stands =
      let t = so c life is stands in
      let n = says c t.0 is t.2 in
      let v = n.2 in
      let rose : RoseBy n.0.lost was now = subst (λ (k : ℕ). RoseBy k was now) (sym v.lost_is) (rose_more t.0.lost v.lost was before now t.3 v.rose) in
      let mine : ItemCame c item t.0 (Err e) fs n.0 = subst (λ (r : Result Done CallEnd). ItemCame c item t.0 r fs n.0) taken_is n.1 in
      let runs : RunsItems c items (call_begun first.mail life) (came_data came) (es ++ fs) n.0 =
      subst (λ (r : Result (Vec (Item × Done) Global) CallEnd). RunsItems c items (call_begun first.mail life) (came_data r) (es ++ fs) n.0) (sym came_is)
      (ended c life t.0 n.0 t.1 mine) in (
        n.0,
        runs,
        v.stands,
        v.mail_is,
        (λ some known.
            let m = end_has_memory e (λ lacks. some (ap came_data came_is ∙ lacks)) taken taken_is in
            let k = known_in first.mail t.0 n.0 v.own t.4 v.own_is known in
            v.counted m k.1 ∙ t.5 k.0),
        rose,
      )
    where
      ended : (c : SetCall) (life : LinkLife) (mid after : CallState) → DoesItems c (call_begun first.mail life) (map done_data done) es mid → ItemCame c item mid (Err e) fs after
          → RunsItems c items (call_begun first.mail life) (Err (call_end e)) (es ++ fs) after
      ended c life mid after course (inl stop) = Stopped (map done_data done) item later mid es fs (call_end e) course stop all refl refl
      ended c life mid after course (inr (memory, lacks)) =
          let here : DoesItems c (call_begun first.mail life) (map done_data done) es after =
          subst (λ (m : CallState). DoesItems c (call_begun first.mail life) (map done_data done) es m) (sym lacks.same) course in
          let draws : IsDrawnFor c after (item ∷ later) lacks.drawn =
          subst (λ (m : CallState). IsDrawnFor c m (item ∷ later) lacks.drawn) (sym lacks.same) (drawn_first c mid item later lacks.drawn lacks.draws) in
          Wanting (map done_data done) (item ∷ later) es lacks.drawn here draws all (ap (λ (l : List Event). es ++ l) lacks.events_are)
          (ap (λ (x : CallEnd). Err (call_end x)) memory)
