-- A call that changes mail comes to one thing, as long as what it asks is answered as before.
use Rattle.std.proofs.Common.{◌≡◌, ◌≢◌, ◌∙◌, ◌++◌, ◌||◌, ℕ, Bool, true, false, List, [], ◌∷◌, map, append-nil, append_assoc, Option, Some, None, Result, Ok, Err, refl, sym, ap, subst}
use Rattle.std.proofs.lemmas.List.{map-append}
use Rattle.gate_world.specs.declared.event.Event.{Event}
use Rattle.email_bodies.specs.Asking.{BodyAsk}
use Rattle.serde_json.specs.Data.{Data}
use Rattle.told_folder.specs.declared.exchange.Exchange.{Exchange}
use Rattle.jmap_arguments.specs.declared.method_error.MethodError.{MethodError}
use Rattle.jmap_arguments.specs.declared.method_error.MethodError.TheVariants.{ServerFail, ServerPartialFail, ServerUnavailable}
use Rattle.jmap_core.specs.CreatedIds.{Ids}
use Rattle.mail_state.specs.History.{HasRoom, MailHistory}
use Rattle.set_arguments.specs.Arguments.{SetAsked}
use Rattle.set_arguments.specs.declared.set_method.SetMethod.{SetMethod}
use Rattle.set_jobs.specs.declared.done.Done.{Done}
use Rattle.set_jobs.specs.declared.done.SetError.{SetError}
use Rattle.set_jobs.specs.declared.job.Job.{Job}
use Rattle.set_methods.specs.Checks.{ImportRules, Rules}
use Rattle.set_order.specs.Ordered.{Item, ItemsOf}
use Rattle.set_items.specs.declared.item.ItemEnd.{ItemEnd}
use Rattle.set_items.specs.declared.item.ItemEnd.TheVariants.{Comes, Ends, OutOfMemory}
use Rattle.set_calls.specs.Calls.{SetCall, CallState, DoesItems, NoItems, MoreItems, RunsItems, AllDone, Stopped, Wanting, items_of}
use Rattle.set_replies.specs.Created.{created_with}
use Rattle.set_replies.specs.Replies.{set_reply}
use Rattle.set_replies.specs.States.{place_of}
use Rattle.gate_machine.specs.Beginning.{Settles}
use Rattle.gate_machine.specs.Beginning as settling
use Rattle.gate_machine.specs.History.{KnownMail}
use Rattle.gate_machine.specs.Progress.{Progress}
use Rattle.gate_machine.specs.declared.mail_status.MailFailure.TheVariants.{Broken, Spent}
use Rattle.gate_machine.specs.declared.mail_status.MailStatus.{MailStatus}
use Rattle.gate_machine.specs.declared.mail_status.MailStatus.TheVariants as standing
use Rattle.gate_changes.specs.Answering as answering
use Rattle.gate_changes.specs.Answering.{AnswersChange, ChangesAsked, DoesChange, is_current}
use Rattle.gate_changes.specs.Changing as changing
use Rattle.gate_changes.specs.Changing.{AreInRow, ChangesMail, DoesCourse, GoesToCommit, where_committed}
use Rattle.gate_changes.specs.Importing.{IsServing, PreparesImport, RefusedAtOnce, Sought, TakesImport, BodyLost, Taken, NoRoom, DoesImports, NoImports, OutBefore, ImportDone, ImportEnds}
use Rattle.gate_changes.specs.Importing.{before_these as push, ends_after, is_made, one_came}
use Rattle.gate_changes.specs.Items.{DoesItemsOver, ItemsCame}
use Rattle.gate_calls.specs.Calling.{Asked, Tried, Committed, CallsState, asks_of, asks_of_change, asks_of_done, asks_of_course, asks_of_import, asks_of_imports, asks_of_items, asks_over, Body, done_ask, history_known, last_ask}
use Rattle.gate_calls.specs.ItemChecks.{item_checks}
use Rattle.gate_calls.specs.Mailings.{Mailing, mail_at, mailing_by}
use Rattle.gate_calls.specs.Places.{HasPlaces}
use Rattle.gate_calls.proofs.Bodies.{bodies_keep_mail}

-- ---- items

abbrev pushes : List (Item × Done) → ItemsCame → ItemsCame
pushes [] came = came
pushes (e ∷ es) came = push e (pushes es came)

-- an end of a call, after items that made an Email or made none
abbrev Over : Type 0
Over = Bool → ItemEnd → ItemEnd

-- where it is the same
abbrev same_end : Over
same_end made ends = ends

-- these items were tried in order, up to the first that ended the call; bodies were asked before some
data Tries (over : Over) : Bool → List Item → List Asked → ItemsCame → Type 0 where
  AllTried : {made : Bool} → Tries over made [] [] (Ok [])
  OneAsked : {made : Bool} {item : Item} {items : List Item} {asks : List Asked} {came : ItemsCame} (ask : BodyAsk) → Tries over made (item ∷ items) asks came
      → Tries over made (item ∷ items) (Body ask ∷ asks) came
  OneDone : {made : Bool} {items : List Item} {asks : List Asked} {came : ItemsCame} (item : Item) (exchanges : List Exchange) (done : Done) (selected : Option (List ℕ))
      → Tries over (made || is_made done) items asks came → Tries over made (item ∷ items) (Tried item exchanges (Comes done) selected ∷ asks) (push (item, done) came)
  OneStops : {made : Bool} {items : List Item} (item : Item) (exchanges : List Exchange) (ends : ItemEnd) (selected : Option (List ℕ)) → ((done : Done) → ends ≢ Comes done)
      → Tries over made (item ∷ items) (Tried item exchanges ends selected ∷ []) (Err (over made ends))

one_try : {over : Over} {made : Bool} {items : List Item} {asks also : List Asked} {r s : ItemsCame} (more later : List Asked) → Tries over made items asks r
    → Tries over made items also s → asks ++ more ≡ also ++ later → (asks ≡ also) × (r ≡ s) × (more ≡ later)
one_try more later AllTried AllTried same = (refl, refl, same)
one_try more later (OneAsked {asks = asks} ask rest) (OneAsked {asks = also} other those) same =
    let head : Body ask ≡ Body other = cc in
    let tail : asks ++ more ≡ also ++ later = cc in
    let next = one_try more later rest those tail in
    ((λ i. head i ∷ next.0 i), next.1, next.2)
one_try more later (OneAsked ask rest) (OneDone other ys e sel2 those) same = absurd (cc)
one_try more later (OneAsked ask rest) (OneStops other ys ends sel2 not) same = absurd (cc)
one_try more later (OneDone item xs d sel rest) (OneAsked other those) same = absurd (cc)
one_try more later (OneStops item xs ends sel not) (OneAsked other those) same = absurd (cc)
one_try {over} {made} more later (OneDone {items = items} {asks = asks} {came = r} item xs d sel rest) (OneDone {asks = also} {came = s} other ys e sel2 those) same =
    let head : Tried item xs (Comes d) sel ≡ Tried other ys (Comes e) sel2 = cc in
    let tail : asks ++ more ≡ also ++ later = cc in
    let done : d ≡ e = cc in
    let next = one_try more later rest (subst (λ (x : Done). Tries over (made || is_made x) items also s) (sym done) those) tail in (
      (λ i. head i ∷ next.0 i),
      (λ i. push (item, done i) (next.1 i)),
      next.2,
    )
one_try more later (OneDone item xs d sel rest) (OneStops other ys ends sel2 not) same = absurd (not d (let is : ends ≡ Comes d = cc in is))
one_try more later (OneStops item xs ends sel not) (OneDone other ys e sel2 those) same = absurd (not e (let is : ends ≡ Comes e = cc in is))
one_try {over} {made} more later (OneStops item xs ends sel not) (OneStops other ys also sel2 never) same =
    let head : Tried item xs ends sel ≡ Tried other ys also sel2 = cc in
    let tail : more ≡ later = cc in
    let is : ends ≡ also = cc in (
      (λ i. head i ∷ []),
      (λ i. Err (over made (is i))),
      tail,
    )

pushes-append : (done : List (Item × Done)) (e : Item × Done) (came : ItemsCame) → pushes (done ++ e ∷ []) came ≡ pushes done (push e came)
pushes-append [] e came = refl
pushes-append (x ∷ xs) e came = ap (λ (c : ItemsCame). push x c) (pushes-append xs e came)

pushes-none : (done : List (Item × Done)) → pushes done (Ok []) ≡ Ok done
pushes-none [] = refl
pushes-none (x ∷ xs) = ap (λ (c : ItemsCame). push x c) (pushes-none xs)

pushes-ends : (done : List (Item × Done)) (ends : ItemEnd) → pushes done (Err ends) ≡ Err ends
pushes-ends [] ends = refl
pushes-ends (x ∷ xs) ends = ap (λ (c : ItemsCame). push x c) (pushes-ends xs ends)

-- items that were done, and then others
done_then : {c : SetCall} {before : CallState} {done : List (Item × Done)} {events : List Event} {after : CallState} (does : DoesItems c before done events after)
    {items : List Item} {asks : List Asked} {came : ItemsCame} → ((made : Bool) → Tries same_end made items asks came) → (made : Bool)
    → Tries same_end made (items_of done ++ items) (asks_of_done does ++ asks) (pushes done came)
done_then NoItems tries made = tries made
done_then (MoreItems {done = done} next rest) {items} {asks} {came} tries made =
    let e : Item × Done = (next.item, next.done) in
    let more = done_then rest (λ (m : Bool). OneDone next.item _ next.done _ (tries (m || is_made next.done))) made in
    subst (λ (l : List Item). Tries same_end made l ((asks_of_done rest ++ done_ask next ∷ []) ++ asks) (pushes (done ++ e ∷ []) came))
    (sym (ap (λ (l : List Item). l ++ items) (map-append (λ (x : Item × Done). x.0) done (e ∷ [])) ∙ append_assoc (items_of done) (next.item ∷ []) items))
    (subst (λ (l : List Asked). Tries same_end made (items_of done ++ (next.item ∷ items)) l (pushes (done ++ e ∷ []) came))
    (sym (append_assoc (asks_of_done rest) (done_ask next ∷ []) asks))
    (subst (λ (r : ItemsCame). Tries same_end made (items_of done ++ (next.item ∷ items)) (asks_of_done rest ++ (done_ask next ∷ asks)) r) (sym (pushes-append done e came)) more))

-- what was run
runs_try : {c : SetCall} {items : List Item} {before : CallState} {came : ItemsCame} {events : List Event} {after : CallState}
    (runs : RunsItems c items before came events after) → came ≢ Err OutOfMemory → (made : Bool) → Tries same_end made items (asks_of_items runs) came
runs_try {items = items} {came = came} (AllDone done does all is) there made =
    subst (λ (r : ItemsCame). Tries same_end made items (asks_of_done does) r) (pushes-none done ∙ sym is)
    (subst (λ (l : List Asked). Tries same_end made items l (pushes done (Ok []))) (append-nil (asks_of_done does))
    (subst (λ (l : List Item). Tries same_end made l (asks_of_done does ++ []) (pushes done (Ok []))) (append-nil (items_of done) ∙ all)
    (done_then does (λ (m : Bool). AllTried) made)))
runs_try {items = items} {came = came} (Stopped done item later mid so_far last ends does stops all whole is) there made =
    subst (λ (r : ItemsCame). Tries same_end made items (asks_of_done does ++ last_ask stops ∷ []) r) (pushes-ends done ends ∙ sym is)
    (subst (λ (l : List Item). Tries same_end made l (asks_of_done does ++ last_ask stops ∷ []) (pushes done (Err ends))) all
    (done_then does (λ (m : Bool). OneStops item stops.steps.does.runs.exchanges ends _ stops.not_done) made))
runs_try (Wanting done later so_far drawn does draws all whole is) there made = absurd (there is)

-- ---- imports

-- bodies are asked first
with_bodies : {over : Over} {made : Bool} {item : Item} {items : List Item} {asks : List Asked} {came : ItemsCame} (bodies : List BodyAsk) → Tries over made (item ∷ items) asks came
    → Tries over made (item ∷ items) (map Body bodies ++ asks) came
with_bodies [] tries = tries
with_bodies (b ∷ bs) tries = OneAsked b (with_bodies bs tries)

one_pushed : (x : Item × Done) (came : ItemsCame) (y : Item × Done) → push x came ≡ Ok (y ∷ []) → x ≡ y
one_pushed x (Ok done) y is = cc
one_pushed x (Err ends) y is = absurd (cc)

-- one item that came to something, and then others
one_then : {over : Over} {m made : Bool} {item : Item} {r : ItemsCame} {asks later : List Asked} {items : List Item} {came : ItemsCame} (done : Done)
    → Tries same_end m (item ∷ []) asks r → r ≡ Ok ((item, done) ∷ []) → Tries over (made || is_made done) items later came
    → Tries over made (item ∷ items) (asks ++ later) (push (item, done) came)
one_then done (OneAsked ask tries) is rest = OneAsked ask (one_then done tries is rest)
one_then {over} {made = made} {later = later} {items = items} {came = came} done (OneDone item xs d sel AllTried) is rest =
    let same : d ≡ done = ap (λ (e : Item × Done). e.1) (one_pushed (item, d) (Ok []) (item, done) is) in
    subst (λ (x : Done). Tries over made (item ∷ items) (Tried item xs (Comes d) sel ∷ later) (push (item, x) came)) same
    (OneDone item xs d sel (subst (λ (x : Done). Tries over (made || is_made x) items later came) (sym same) rest))
one_then done (OneStops item xs ends sel not) is rest = absurd (let never : (let r : ItemsCame = Err ends in r) ≡ Ok ((item, done) ∷ []) = is in cc)

same_ends : (e f : ItemEnd) → (let r : ItemsCame = Err e in r) ≡ Err f → e ≡ f
same_ends e f is = cc

never_pushed : (x : Item × Done) (came : ItemsCame) (ends : ItemEnd) → push x came ≡ Err ends → came ≡ Err ends
never_pushed x (Ok done) ends is = absurd (cc)
never_pushed x (Err e) ends is = is

-- one that ended the call
one_ends : {over : Over} {m made : Bool} {item : Item} {r : ItemsCame} {asks : List Asked} {items : List Item} (ends : ItemEnd) → ((done : Done) → ends ≢ Comes done)
    → Tries same_end m (item ∷ []) asks r → r ≡ Err ends → Tries over made (item ∷ items) asks (Err (over made ends))
one_ends ends not (OneAsked ask tries) is = OneAsked ask (one_ends ends not tries is)
one_ends ends not (OneDone item xs d sel AllTried) is = absurd (let never : (let r : ItemsCame = Ok ((item, d) ∷ []) in r) ≡ Err ends = is in cc)
one_ends {over} {made = made} {items = items} ends not (OneStops item xs e sel never) is =
    let same : e ≡ ends = same_ends e ends is in
    subst (λ (x : ItemEnd). Tries over made (item ∷ items) (Tried item xs e sel ∷ []) (Err (over made x))) same (OneStops item xs e sel never)

pub came_well : (item : Item) (ends : ItemEnd) → ends ≢ OutOfMemory → one_came item ends ≢ Err OutOfMemory
came_well item (Comes done) there is = cc
came_well item (Ends e) there is = cc
came_well item OutOfMemory there is = there refl

ends_came : (item : Item) (ends : ItemEnd) → ((done : Done) → ends ≢ Comes done) → one_came item ends ≡ Err ends
ends_came item (Comes done) not = absurd (not done refl)
ends_came item (Ends e) not = refl
ends_came item OutOfMemory not = refl

pub still_out : (made : Bool) (ends : ItemEnd) → ends ≡ OutOfMemory → (let r : ItemsCame = Err (ends_after made ends) in r) ≡ Err OutOfMemory
still_out made ends is = ap (λ (e : ItemEnd). let r : ItemsCame = Err (ends_after made e) in r) is ∙ by made
  where
    by : (b : Bool) → (let r : ItemsCame = Err (ends_after b OutOfMemory) in r) ≡ Err OutOfMemory
    by true = refl
    by false = refl

pub rest_well : (x : Item × Done) (came : ItemsCame) → push x came ≢ Err OutOfMemory → came ≢ Err OutOfMemory
rest_well x (Ok done) there is = cc
rest_well x (Err e) there is = there is

done_tries : {call : SetCall} {uploads : List (List ℕ)} {made : Bool} {item : Item} {p q : Progress} {bodies : List BodyAsk} {done : Done} {events : List Event} {items : List Item}
    {later : List Asked} {came : ItemsCame} (takes : TakesImport call uploads item p bodies (Comes done) events q) → Tries ends_after (made || is_made done) items later came
    → Tries ends_after made (item ∷ items) (asks_of_import takes ++ later) (push (item, done) came)
done_tries {made = made} {item = item} {bodies = bodies} {done = done} {items = items} {later = later} {came = came} (Taken steps ends prepares does) rest =
    subst (λ (l : List Asked). Tries ends_after made (item ∷ items) l (push (item, done) came)) (sym (append_assoc (map Body bodies) (asks_of_items does.runs) later))
    (with_bodies bodies (one_then done (runs_try does.runs (λ is. cc) false) refl rest))

ends_try : {call : SetCall} {uploads : List (List ℕ)} {made : Bool} {item : Item} {p q : Progress} {bodies : List BodyAsk} {ends : ItemEnd} {events : List Event} {items : List Item}
    (takes : TakesImport call uploads item p bodies ends events q) → ((done : Done) → ends ≢ Comes done) → ends ≢ OutOfMemory
    → Tries ends_after made (item ∷ items) (asks_of_import takes) (Err (ends_after made ends))
ends_try {item = item} {bodies = bodies} (BodyLost prepares) not there = with_bodies bodies (OneStops item [] (Ends ServerUnavailable) _ not)
ends_try {item = item} {bodies = bodies} (Taken steps ends prepares does) not there =
    with_bodies bodies (one_ends ends not (runs_try does.runs (came_well item ends there) false) (ends_came item ends not))
ends_try (NoRoom lacks) not there = absurd (there refl)

imports_try : {call : SetCall} {uploads : List (List ℕ)} {made : Bool} {items : List Item} {p q : Progress} {came : ItemsCame} {events : List Event}
    (imports : DoesImports call uploads made p items came events q) → came ≢ Err OutOfMemory → Tries ends_after made items (asks_of_imports imports) came
imports_try (NoImports here) there = AllTried
imports_try (OutBefore here) there = absurd (there refl)
imports_try (ImportDone {came = came} item done takes rest) there = done_tries takes (imports_try rest (rest_well (item, done) came there))
imports_try {made = made} (ImportEnds item ends not takes) there = ends_try takes not (λ is. there (still_out made ends is))

-- ---- the mail once they are done

row_mail : {call : SetCall} {items : List Item} {before mid : Progress} {came : ItemsCame} {events : List Event} → DoesItemsOver call items before came events mid
    → mail_at mid ≡ Ok call.history
row_mail does =
    (λ i. mailing_by ((ap (λ (p : Progress). p.standing) does.after_is ∙ does.stands) i) (ap (λ (p : Progress). p.machine.known) does.after_is i))
    ∙ ap (λ (h : MailHistory). let m : Mailing = Ok h in m) (sym does.served)

serving_mail : {call : SetCall} {before : Progress} → IsServing call before → mail_at before ≡ Ok call.history
serving_mail here = (λ i. mailing_by (here.stands i) (here.ready i)) ∙ ap (λ (h : MailHistory). let m : Mailing = Ok h in m) (sym here.served)

prepared_mail : {call : SetCall} {uploads : List (List ℕ)} {item : Item} {p q : Progress} {bodies : List BodyAsk} {made : Option (Result Job SetError)} {events : List Event}
    → PreparesImport call uploads item p bodies made events q → mail_at q ≡ Ok call.history
prepared_mail (RefusedAtOnce here e is) = serving_mail here
prepared_mail (Sought here i found is finds asked makes) = bodies_keep_mail asked ∙ serving_mail here

import_mail : {call : SetCall} {uploads : List (List ℕ)} {item : Item} {p q : Progress} {bodies : List BodyAsk} {ends : ItemEnd} {events : List Event}
    → TakesImport call uploads item p bodies ends events q → ends ≢ OutOfMemory → mail_at q ≡ Ok call.history
import_mail (BodyLost prepares) there = prepared_mail prepares
import_mail (Taken steps ends prepares does) there = row_mail does
import_mail (NoRoom lacks) there = absurd (there refl)

imports_mail : {call : SetCall} {uploads : List (List ℕ)} {made : Bool} {items : List Item} {p q : Progress} {came : ItemsCame} {events : List Event}
    → DoesImports call uploads made p items came events q → came ≢ Err OutOfMemory → mail_at q ≡ Ok call.history
imports_mail (NoImports here) there = serving_mail here
imports_mail (OutBefore here) there = absurd (there refl)
imports_mail (ImportDone {came = came} item done takes rest) there = imports_mail rest (rest_well (item, done) came there)
imports_mail {made = made} (ImportEnds item ends not takes) there = import_mail takes (λ is. there (still_out made ends is))

course_mail : {call : SetCall} {items : List Item} {before mid : Progress} {came : ItemsCame} {events : List Event} → DoesCourse call items before came events mid
    → came ≢ Err OutOfMemory → mail_at mid ≡ Ok call.history
course_mail (changing.InRow row does) there = row_mail does
course_mail (changing.OneByOne uploads rules imports) there = imports_mail imports there

-- ---- the commit

one_served : (g h : MailHistory) → (let m : Mailing = Ok g in m) ≡ Ok h → g ≡ h
one_served g h is = cc

-- what is served after a commit that stands: the history as before, or a further one that has room
settled : (h : MailHistory) {mid after : Progress} → mail_at mid ≡ Ok h → HasRoom h → Settles mid [] after → after.standing ≡ standing.Stands
    → (k : KnownMail) × (after.machine.known ≡ Some k) × HasRoom k.history
settled h {mid = mid} told room (settling.Same k stands ready same none is) stood =
    let served : (let m : Mailing = Ok k.history in m) ≡ Ok h = (λ i. mailing_by (sym stands i) (sym ready i)) ∙ told in
    (k, ap (λ (p : Progress). p.machine.known) is ∙ ready, subst (λ (x : MailHistory). HasRoom x) (sym (one_served k.history h served)) room)
settled h told room (settling.Moves new next goes has none is) stood = (record new.known { history = next }, ap (λ (p : Progress). p.machine.known) is, has)
settled h told room (settling.Spends new spent none is) stood =
    absurd (let both : standing.Unserved Spent ≡ standing.Stands = sym (ap (λ (p : Progress). p.standing) is) ∙ stood in cc)
settled h told room (settling.Lacks stands none is) stood =
    absurd (let both : standing.OutOfMemory ≡ standing.Stands = sym (ap (λ (p : Progress). p.standing) is) ∙ stood in cc)

-- the mail that is served then
mail_after : (p : Progress) (k : KnownMail) → p.standing ≡ standing.Stands → p.machine.known ≡ Some k → mail_at p ≡ Ok k.history
mail_after p k stands ready = (λ i. mailing_by (stands i) (ready i))

broken_mail : (p : Progress) → p.standing ≡ standing.Unserved Broken → mail_at p ≡ Err ServerUnavailable
broken_mail p is = ap (λ (s : MailStatus). mailing_by s p.machine.known) is

pub goes_there : (came : ItemsCame) → GoesToCommit came → came ≢ Err OutOfMemory
goes_there (Ok done) goes is = cc
goes_there (Err (Comes d)) goes is = absurd goes
goes_there (Err (Ends e)) goes is = cc
goes_there (Err OutOfMemory) goes is = absurd goes

partly_there : (let r : ItemsCame = Err (Ends ServerPartialFail) in r) ≢ Err OutOfMemory
partly_there is = cc

never_partly : (came : ItemsCame) → GoesToCommit came → came ≡ Err (Ends ServerPartialFail) → ⊥
never_partly came goes is = subst (λ (r : ItemsCame). GoesToCommit r) is goes

-- what is left of two calls that change mail
pub record SameChange (asks also : List Asked) (r s : Result (List (Item × Done)) MethodError) (after then : Progress) : Type 0 where
  pub asked : asks ≡ also
  pub came : r ≡ s
  pub mail : mail_at after ≡ mail_at then
  pub known : (e : List (Item × Done)) → r ≡ Ok e → (k l : KnownMail) → after.machine.known ≡ Some k → then.machine.known ≡ Some l → k.history ≡ l.history
  pub room : HasPlaces (mail_at after)

one_history : (o p : Option KnownMail) (k l : KnownMail) → history_known o ≡ history_known p → o ≡ Some k → p ≡ Some l → k.history ≡ l.history
one_history o p k l same is js =
    let both : Some k.history ≡ Some l.history = sym (ap history_known is) ∙ same ∙ ap history_known js in cc

no_row : {Y : Type 0} (rules : Rules) (uploads : List (List ℕ)) → rules ≡ ImportRules uploads → AreInRow rules → Y
no_row rules uploads is row = absurd (subst (λ (r : Rules). AreInRow r) is row)

-- the items of both, and what comes after them
both_try : {c d : SetCall} {items others : List Item} {p q mid last : Progress} {r s : ItemsCame} {es fs : List Event} → others ≡ items → d.rules ≡ c.rules
    → (does : DoesCourse c items p r es mid) (those : DoesCourse d others q s fs last) → r ≢ Err OutOfMemory → s ≢ Err OutOfMemory → (xs more ys later : List Asked)
    → (asks_of_course does ++ xs) ++ more ≡ (asks_of_course those ++ ys) ++ later
    → (asks_of_course does ≡ asks_of_course those) × (r ≡ s) × (xs ++ more ≡ ys ++ later)
both_try {s = s} alike rules (changing.InRow row does) (changing.InRow too_row those) there too xs more ys later same =
    one_try (xs ++ more) (ys ++ later) (runs_try does.runs there false)
    (subst (λ (l : List Item). Tries same_end false l (asks_of_items those.runs) s) alike (runs_try those.runs too false))
    (sym (append_assoc (asks_of_items does.runs) xs more) ∙ same ∙ append_assoc (asks_of_items those.runs) ys later)
both_try {c} {d} alike rules (changing.InRow row does) (changing.OneByOne uploads are those) there too xs more ys later same =
    no_row c.rules uploads (sym rules ∙ are) row
both_try {c} {d} alike rules (changing.OneByOne uploads are imports) (changing.InRow row those) there too xs more ys later same =
    no_row d.rules uploads (rules ∙ are) row
both_try {s = s} alike rules (changing.OneByOne uploads are imports) (changing.OneByOne others also those) there too xs more ys later same =
    one_try (xs ++ more) (ys ++ later) (imports_try imports there)
    (subst (λ (l : List Item). Tries ends_after false l (asks_of_imports those) s) alike (imports_try those too))
    (sym (append_assoc (asks_of_imports imports) xs more) ∙ same ∙ append_assoc (asks_of_imports those) ys later)

no_more : (xs more : List Asked) → xs ++ more ≡ (xs ++ []) ++ more
no_more xs more = ap (λ (l : List Asked). l ++ more) (sym (append-nil xs))

committed_none : {more later : List Asked} (o : Option MailHistory) (k : KnownMail) (known : Option KnownMail) → known ≡ Some k
    → Committed (history_known known) ∷ more ≡ Committed None ∷ later → ⊥
committed_none o k known is same =
    let head : history_known known ≡ None = cc in
    let there : history_known known ≡ Some k.history = ap history_known is in
    let both : Some k.history ≡ None = sym there ∙ head in cc

broken_off_is : (p q : Progress) → p ≡ changing.broken_off q → mail_at p ≡ Err ServerUnavailable
broken_off_is p q is = broken_mail p (ap (λ (x : Progress). x.standing) is)

room_broken : (p : Progress) → mail_at p ≡ Err ServerUnavailable → HasPlaces (mail_at p)
room_broken p is = subst (λ (m : Mailing). HasPlaces m) (sym is) tt

no_known : {r : Result (List (Item × Done)) MethodError} (after then : Progress) (e : MethodError) → r ≡ Err e
    → (done : List (Item × Done)) → r ≡ Ok done → (k l : KnownMail) → after.machine.known ≡ Some k → then.machine.known ≡ Some l → k.history ≡ l.history
no_known {r} after then e is done js k l ks ls = absurd (let both : (let x : Result (List (Item × Done)) MethodError = Ok done in x) ≡ Err e = sym js ∙ is in cc)

one_change : {c d : SetCall} {items others : List Item} {p q after then : Progress} {r s : Result (List (Item × Done)) MethodError} {es fs : List Event} (more later : List Asked)
    → others ≡ items → d.rules ≡ c.rules → HasRoom c.history → HasRoom d.history → (a : ChangesMail c items p r es after) (b : ChangesMail d others q s fs then)
    → asks_of_change a ++ more ≡ asks_of_change b ++ later → SameChange (asks_of_change a) (asks_of_change b) r s after then
one_change {c} {d} {after = after} {then} more later alike rules room too (changing.Committed came mid does goes settles stands is)
    (changing.Committed other last those gone settle stood js) same =
    let hk = history_known after.machine.known in
    let gk = history_known then.machine.known in
    let both = both_try alike rules does those (goes_there came goes) (goes_there other gone) (Committed hk ∷ []) more (Committed gk ∷ []) later same in
    let head : hk ≡ gk = let rest : Committed hk ∷ more ≡ Committed gk ∷ later = both.2 in cc in
    let k = settled c.history (course_mail does (goes_there came goes)) room settles stands in
    let l = settled d.history (course_mail those (goes_there other gone)) too settle stood in
    let history : k.0.history ≡ l.0.history = one_history after.machine.known then.machine.known k.0 l.0 head k.1 l.1 in
    record {
      asked = (λ i. both.0 i ++ Committed (head i) ∷ []);
      came = is ∙ ap where_committed both.1 ∙ sym js;
      mail = mail_after after k.0 stands k.1 ∙ ap (λ (h : MailHistory). let m : Mailing = Ok h in m) history ∙ sym (mail_after then l.0 stood l.1);
      known = λ e ok x y xs ys. one_history after.machine.known then.machine.known x y head xs ys;
      room = subst (λ (m : Mailing). HasPlaces m) (sym (mail_after after k.0 stands k.1)) k.2;
    }
one_change {c} {d} {after = after} more later alike rules room too (changing.Committed came mid does goes settles stands is)
    (changing.SpentBy other last spent doing ending those gone settle standing_is hangs whole after_is js) same =
    let k = settled c.history (course_mail does (goes_there came goes)) room settles stands in
    absurd (committed_none None k.0 after.machine.known k.1
    (both_try alike rules does those (goes_there came goes) (goes_there other gone) (Committed (history_known after.machine.known) ∷ []) more (Committed None ∷ []) later same).2)
one_change {c} {d} {after = after} more later alike rules room too (changing.Committed came mid does goes settles stands is)
    (changing.FailedInPart last doing ending those hangs whole after_is js) same =
    absurd (never_partly came goes
    (both_try alike rules does those (goes_there came goes) partly_there (Committed (history_known after.machine.known) ∷ []) more [] later
    (same ∙ no_more (asks_of_course those) later)).1)
one_change {c} {d} {then = then} more later alike rules room too (changing.SpentBy came mid spent doing ending does goes settles standing_is hangs whole after_is is)
    (changing.Committed other last those gone settle stood js) same =
    let l = settled d.history (course_mail those (goes_there other gone)) too settle stood in
    absurd (committed_none None l.0 then.machine.known l.1
    (sym (both_try alike rules does those (goes_there came goes) (goes_there other gone) (Committed None ∷ []) more (Committed (history_known then.machine.known) ∷ []) later same).2))
one_change {c} {d} {after = after} {then} more later alike rules room too (changing.SpentBy came mid spent doing ending does goes settles standing_is hangs whole after_is is)
    (changing.SpentBy other last gone_to run end those gone settle standing_js hang all then_is js) same =
    let both = both_try alike rules does those (goes_there came goes) (goes_there other gone) (Committed None ∷ []) more (Committed None ∷ []) later same in
    record {
      asked = (λ i. both.0 i ++ Committed None ∷ []);
      came = is ∙ sym js;
      mail = broken_off_is after spent after_is ∙ sym (broken_off_is then gone_to then_is);
      known = no_known after then ServerFail is;
      room = room_broken after (broken_off_is after spent after_is);
    }
one_change more later alike rules room too (changing.SpentBy came mid spent doing ending does goes settles standing_is hangs whole after_is is)
    (changing.FailedInPart last run end those hang all then_is js) same =
    absurd (never_partly came goes
    (both_try alike rules does those (goes_there came goes) partly_there (Committed None ∷ []) more [] later (same ∙ no_more (asks_of_course those) later)).1)
one_change {c} {d} {then = then} more later alike rules room too (changing.FailedInPart mid doing ending does hangs whole after_is is) (changing.Committed other last those gone settle stood js) same =
    absurd (never_partly other gone
    (sym (both_try alike rules does those partly_there (goes_there other gone) [] more (Committed (history_known then.machine.known) ∷ []) later
    (sym (no_more (asks_of_course does) more) ∙ same)).1))
one_change more later alike rules room too (changing.FailedInPart mid doing ending does hangs whole after_is is)
    (changing.SpentBy other last spent run end those gone settle standing_js hang all then_is js) same =
    absurd (never_partly other gone
    (sym (both_try alike rules does those partly_there (goes_there other gone) [] more (Committed None ∷ []) later (sym (no_more (asks_of_course does) more) ∙ same)).1))
one_change {c} {d} {after = after} {then} more later alike rules room too (changing.FailedInPart mid doing ending does hangs whole after_is is)
    (changing.FailedInPart last run end those hang all then_is js) same =
    let both = both_try alike rules does those partly_there partly_there [] more [] later
    (sym (no_more (asks_of_course does) more) ∙ same ∙ no_more (asks_of_course those) later) in
    record {
      asked = both.0;
      came = is ∙ sym js;
      mail = broken_off_is after mid after_is ∙ sym (broken_off_is then last then_is);
      known = no_known after then ServerPartialFail is;
      room = room_broken after (broken_off_is after mid after_is);
    }

-- ---- the call

abbrev pub OrderLaw : Type 0
OrderLaw = (m : SetMethod) (created : Ids) (a : SetAsked) (items others : List Item) → ItemsOf m created a items → ItemsOf m created a others → items ≡ others

-- what is left of two calls
abbrev pub SameCall : List Asked → List Asked → Result Data MethodError → Result Data MethodError → CallsState → CallsState → Type 0
SameCall asks also r q after then =
    (asks ≡ also) × (r ≡ q) × (after.created ≡ then.created) × (mail_at after.progress ≡ mail_at then.progress) × HasPlaces (mail_at after.progress)

done_is : (d e : List (Item × Done)) → (let r : Result (List (Item × Done)) MethodError = Ok d in r) ≡ Ok e → d ≡ e
done_is d e is = cc

error_is : (e f : MethodError) → (let r : Result (List (Item × Done)) MethodError = Err e in r) ≡ Err f → e ≡ f
error_is e f is = cc

never_done : (e : MethodError) (d : List (Item × Done)) → (let r : Result (List (Item × Done)) MethodError = Err e in r) ≡ Ok d → ⊥
never_done e d is = cc

one_reply : {m : SetMethod} {g h : MailHistory} {s t after then : CallsState} {came other : Result (List (Item × Done)) MethodError} {r q : Result Data MethodError}
    → g ≡ h → s.created ≡ t.created → came ≡ other
    → ((done : List (Item × Done)) → came ≡ Ok done → (k l : KnownMail) → after.progress.machine.known ≡ Some k → then.progress.machine.known ≡ Some l → k.history ≡ l.history)
    → AnswersChange m g s came r after → AnswersChange m h t other q then → (r ≡ q) × (after.created ≡ then.created)
one_reply {m} {g} {h} {s} {t} same_history ids same known (answering.Replies done k is ready r_is made) (answering.Replies others l js there q_is also) =
    let one : done ≡ others = done_is done others (sym is ∙ same ∙ js) in
    let history : k.history ≡ l.history = known done is k l ready there in (
      r_is ∙ (λ i. Ok (set_reply m (place_of m (same_history i)) (history i) (one i))) ∙ sym q_is,
      made ∙ (λ i. created_with (history i) (ids i) (one i)) ∙ sym also,
    )
one_reply same_history ids same known (answering.Replies done k is ready r_is made) (answering.Fails e js q_is also) = absurd (never_done e done (sym js ∙ sym same ∙ is))
one_reply same_history ids same known (answering.Fails e is r_is made) (answering.Replies others l js there q_is also) = absurd (never_done e others (sym is ∙ same ∙ js))
one_reply same_history ids same known (answering.Fails e is r_is made) (answering.Fails f js q_is also) = (
  r_is ∙ ap (λ (x : MethodError). let r : Result Data MethodError = Err x in r) (error_is e f (sym is ∙ same ∙ js)) ∙ sym q_is,
  made ∙ ids ∙ sym also,
)

truths : (a b : Bool) → a ≡ b → a ≡ false → b ≡ true → ⊥
truths a b same is js = let both : false ≡ true = sym is ∙ same ∙ js in cc

module _ (order : OrderLaw) where
  one_over : {uploads : List (List ℕ)} {m : SetMethod} {a b : SetAsked} {g h : MailHistory} {s t after then : CallsState} {r q : Result Data MethodError} {es fs : List Event} (more later : List Asked)
      → b ≡ a → g ≡ h → HasRoom g → HasRoom h → s.created ≡ t.created → mail_at s.progress ≡ mail_at t.progress → HasPlaces (mail_at s.progress)
      → (does : ChangesAsked (item_checks uploads) m a g s r es after) (also : ChangesAsked (item_checks uploads) m b h t q fs then) → asks_over does ++ more ≡ asks_over also ++ later
      → SameCall (asks_over does) (asks_over also) r q after then
  one_over more later asked history room too ids mail places (answering.Mismatch is r_is none same) (answering.Mismatch js q_is nothing stays) alike = (
    refl,
    r_is ∙ sym q_is,
    ap (λ (x : CallsState). x.created) same ∙ ids ∙ sym (ap (λ (x : CallsState). x.created) stays),
    ap (λ (x : CallsState). mail_at x.progress) same ∙ mail ∙ sym (ap (λ (x : CallsState). mail_at x.progress) stays),
    subst (λ (m : Mailing). HasPlaces m) (sym (ap (λ (x : CallsState). mail_at x.progress) same)) places,
  )
  one_over {m} {a} {b} {g} {h} more later asked history room too ids mail places (answering.Mismatch is r_is none same)
      (answering.Changes others came js those changes answers) alike =
      absurd (truths (is_current m a g) (is_current m b h) (λ i. is_current m (sym asked i) (history i)) is js)
  one_over {m} {a} {b} {g} {h} more later asked history room too ids mail places (answering.Changes items came is these changes answers)
      (answering.Mismatch js q_is nothing stays) alike =
      absurd (truths (is_current m b h) (is_current m a g) (λ i. is_current m (asked i) (sym history i)) js is)
  one_over {uploads} {m} {a} {b} {g} {h} {s} {t} {after} {then} more later asked history room too ids mail places (answering.Changes items came is these changes answers)
      (answering.Changes others other js those changing_too answers_too) alike =
      let there : ItemsOf m s.created a others =
      subst (λ (x : Ids). ItemsOf m x a others) (sym ids) (subst (λ (x : SetAsked). ItemsOf m t.created x others) asked those) in
      let one = one_change more later (order m s.created a others items there these) (ap (item_checks uploads m) asked) room too changes changing_too alike in
      let reply = one_reply {after = after} {then = then} history ids one.came one.known answers answers_too in
      (one.asked, reply.0, reply.1, one.mail, one.room)

  pub one_set : (uploads : List (List ℕ)) (m : SetMethod) (d : Data) (h : MailHistory) (s t after then : CallsState) (more later : List Asked) (r q : Result Data MethodError) (es fs : List Event)
      → mail_at s.progress ≡ Ok h → mail_at t.progress ≡ Ok h → s.created ≡ t.created → HasRoom h
      → (does : DoesChange (item_checks uploads) m d (Ok h) s r es after) (also : DoesChange (item_checks uploads) m d (Ok h) t q fs then)
      → asks_of does ++ more ≡ asks_of also ++ later → SameCall (asks_of does) (asks_of also) r q after then
  one_set uploads m d h s t after then more later r q es fs here there ids room (answering.Refused e is r_is none same) (answering.Refused f js q_is nothing stays) alike = (
    refl,
    r_is ∙ ap (λ (x : MethodError). let y : Result Data MethodError = Err x in y) (let both : (let x : Result SetAsked MethodError = Err e in x) ≡ Err f = sym is ∙ js in cc)
        ∙ sym q_is,
    ap (λ (x : CallsState). x.created) same ∙ ids ∙ sym (ap (λ (x : CallsState). x.created) stays),
    ap (λ (x : CallsState). mail_at x.progress) same ∙ here ∙ sym there ∙ sym (ap (λ (x : CallsState). mail_at x.progress) stays),
    subst (λ (m : Mailing). HasPlaces m) (sym (ap (λ (x : CallsState). mail_at x.progress) same ∙ here)) room,
  )
  one_set uploads m d h s t after then more later r q es fs here there ids room (answering.Refused e is r_is none same) (answering.Untold a f js mail_is q_is nothing stays) alike =
      absurd (let both : (let x : Mailing = Ok h in x) ≡ Err f = mail_is in cc)
  one_set uploads m d h s t after then more later r q es fs here there ids room (answering.Refused e is r_is none same) (answering.Asked a g js mail_is changes) alike =
      absurd (let both : (let x : Result SetAsked MethodError = Err e in x) ≡ Ok a = sym is ∙ js in cc)
  one_set uploads m d h s t after then more later r q es fs here there ids room (answering.Untold a e is mail_is r_is none same) also alike =
      absurd (let both : (let x : Mailing = Ok h in x) ≡ Err e = mail_is in cc)
  one_set uploads m d h s t after then more later r q es fs here there ids room (answering.Asked a g is mail_is changes) (answering.Refused f js q_is nothing stays) alike =
      absurd (let both : (let x : Result SetAsked MethodError = Err f in x) ≡ Ok a = sym js ∙ is in cc)
  one_set uploads m d h s t after then more later r q es fs here there ids room (answering.Asked a g is mail_is changes) (answering.Untold b f js mail_js q_is nothing stays) alike =
      absurd (let both : (let x : Mailing = Ok h in x) ≡ Err f = mail_js in cc)
  one_set uploads m d h s t after then more later r q es fs here there ids room (answering.Asked a g is mail_is changes) (answering.Asked b k js mail_js others) alike =
      let asked : b ≡ a = let both : (let x : Result SetAsked MethodError = Ok b in x) ≡ Ok a = sym js ∙ is in cc in
      let first : h ≡ g = let both : (let x : Mailing = Ok h in x) ≡ Ok g = mail_is in cc in
      let second : h ≡ k = let both : (let x : Mailing = Ok h in x) ≡ Ok k = mail_js in cc in
      one_over more later asked (sym first ∙ second) (subst (λ (x : MailHistory). HasRoom x) first room) (subst (λ (x : MailHistory). HasRoom x) second room) ids
      (here ∙ sym there) (subst (λ (m : Mailing). HasPlaces m) (sym here) room) changes others alike
