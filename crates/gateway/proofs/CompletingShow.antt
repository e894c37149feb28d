-- Whoever gives a message to be shown is told its Email object, or memory ran out.
use Rattle.std.proofs.Common.{◌≡◌, ◌⊎◌, ◌++◌, ℕ, List, [], ◌∷◌, length, refl, sym, ◌∙◌, ap, subst, append_assoc, inl, inr, Result, Ok, Err}
use Rattle.std.specs.List.{flat_map}
use Rattle.std.proofs.lemmas.List.{append-nil}
use Rattle.std.proofs.lemmas.List.Concat.{flat_map-append}
use Rattle.gate_world.specs.declared.event.Event.{Event}
use Rattle.gate_world.specs.declared.event.Event.TheVariants.{Accepted, NoMore, ClientEnded, ClientDone}
use Rattle.gate_world.specs.Sending.{Sends}
use Rattle.gate_world.specs.declared.outside.Failed.{Failed}
use Rattle.gate_world.specs.Octets.{client_gave_in, client_took_in}
use Rattle.gate_words.specs.declared.page.Page.{Page}
use Rattle.gate_words.specs.declared.task.Task.TheVariants.{Serve, Once, Store, Show, Check, Explain}
use Rattle.gate_words.proofs.Tasks.{same-task}
use Rattle.gate_serving.specs.declared.front.FrontError.{FrontError}
use Rattle.gate_serving.specs.declared.front.FrontError.TheVariants as error
use Rattle.gate_serving.specs.declared.front.Input.{Input}
use Rattle.gate_serving.specs.declared.front.Input.TheVariants.{Whole, Cut}
use Rattle.gate_serving.specs.Front.{input_octets, GivesInput}
use Rattle.gateway.specs.Show.{ShowsObject, AnswersShow, Unread, Sent, SendsLine, over_front, Shows, NoneComes, NotAccepted, Came}
use Rattle.gate_words.specs.declared.task.Task.{Task}
use Rattle.gate_words.specs.declared.place.Place.{Place}
use Rattle.gate_world.specs.Causes.{Faults, Hidden}
use Rattle.gateway.specs.Program.{Runs, Refused, OutOfMemory, Done, Performed, Unopened, ServedMany, ServedOnce, StoreUnmade, ServedStore, ShownOne, CheckLacks, CheckedOne, Explained, EndsOne, IsAt}
use Rattle.gateway.specs.Complete.{asked_for, GivesWhole, TellsObject, CompletesShow}
use Rattle.store_sessions.proofs.Answered.{heard_gives_nothing}
use Rattle.gateway.proofs.Quiet.{gives_took, gives_gave, before_one}

-- all events of a run that showed one client its message
shown_events : (answered said shown events : List Event) → events ≡ shown ++ said → said ≡ [] → shown ≡ Accepted ∷ (answered ++ ClientDone ∷ [])
    → events ≡ Accepted ∷ (answered ++ ClientDone ∷ [])
shown_events answered said shown events is none shown_is = is ∙ (λ i. shown_is i ++ none i) ∙ append-nil (Accepted ∷ (answered ++ ClientDone ∷ []))

-- their octets of a kind
octets_within : (f : Event → List ℕ) (answered events : List Event) → f Accepted ≡ [] → f ClientDone ≡ [] → events ≡ Accepted ∷ (answered ++ ClientDone ∷ [])
    → flat_map f events ≡ flat_map f answered
octets_within f answered events accepted done is =
    ap (λ (l : List Event). flat_map f l) is ∙ ap (λ (l : List ℕ). l ++ flat_map f (answered ++ ClientDone ∷ [])) accepted ∙ before_one f answered ClientDone done

-- the parts of a request's events, one kind at a time
parts : (f : Event → List ℕ) (es asked life : List Event) (a l : List ℕ) → es ≡ asked ++ life → flat_map f asked ≡ a → flat_map f life ≡ l → flat_map f es ≡ a ++ l
parts f es asked life a l is first second = ap (λ (x : List Event). flat_map f x) is ∙ flat_map-append f asked life ∙ (λ i. first i ++ second i)

-- the client's input is all that it gave
is_given : (input : Input) (reads heard events : List Event) → GivesInput 50000000 (Ok input) reads → events ≡ Accepted ∷ ((reads ++ heard) ++ ClientDone ∷ [])
    → asked_for events ≡ input_octets input → GivesWhole events
is_given (Whole octets) reads heard events (asks, is, so, few) events_are gave =
    let parts_are : ((asks ++ ClientEnded ∷ []) ++ heard) ++ ClientDone ∷ [] ≡ asks ++ ClientEnded ∷ (heard ++ ClientDone ∷ []) =
    append_assoc (asks ++ ClientEnded ∷ []) heard (ClientDone ∷ []) ∙ append_assoc asks (ClientEnded ∷ []) (heard ++ ClientDone ∷ []) in
    inl (
      Accepted ∷ asks,
      heard ++ ClientDone ∷ [],
      events_are ∙ ap (λ (l : List Event). Accepted ∷ ((l ++ heard) ++ ClientDone ∷ [])) is
          ∙ ap (λ (l : List Event). Accepted ∷ l) parts_are,
    )
is_given (Cut octets) reads heard events (so, many) events_are gave = inr (ap length gave ∙ many)

ends_badly : (outcome : Result (Unit {0}) FrontError) (status : ℕ) (said : List Event) → outcome ≡ Err error.Failed → (status ≡ 6 → ⊥) → EndsOne outcome status said → ⊥
ends_badly outcome status said is well ends = let e = subst (λ (r : Result (Unit {0}) FrontError). EndsOne r status said) is ends in well e.0

ends_wanting : (outcome : Result (Unit {0}) FrontError) (status : ℕ) (said : List Event) → outcome ≡ Err error.Memory → EndsOne outcome status said → (status ≡ 5) × (said ≡ [])
ends_wanting outcome status said is ends = subst (λ (r : Result (Unit {0}) FrontError). EndsOne r status said) is ends

ends_shown : (outcome : Result (Unit {0}) FrontError) (status : ℕ) (said : List Event) → outcome ≡ Ok tt → EndsOne outcome status said → said ≡ []
ends_shown outcome status said is ends = let e = subst (λ (r : Result (Unit {0}) FrontError). EndsOne r status said) is ends in e.1

abbrev Told : ℕ → List Event → Type 0
Told status events = TellsObject events ⊎ ((status ≡ 5) × (flat_map client_took_in events ≡ []))

-- the line was sent, or the front failed
sent_told : (outcome : Result (Unit {0}) FrontError) (status : ℕ) (answered said shown events : List Event) (a : SendsLine outcome answered) (sent : Result (Unit {0}) Failed)
    → Sends a.line sent a.heard → outcome ≡ over_front sent → (status ≡ 6 → ⊥) → EndsOne outcome status said → events ≡ shown ++ said
    → shown ≡ Accepted ∷ (answered ++ ClientDone ∷ []) → Told status events
sent_told outcome status answered said shown events a (Err e) sends is well ends events_are shown_is = absurd (ends_badly outcome status said is well ends)
sent_told outcome status answered said shown events a (Ok u) sends is well ends events_are shown_is =
    let input : Input = a.reads.0 in
    let gives : GivesInput 50000000 (Ok input) a.reading = a.reads.1 in
    let object : ShowsObject (input_octets input) a.line = a.reads.2 in
    let all = shown_events answered said shown events events_are (ends_shown outcome status said is ends) shown_is in
    let gave = octets_within client_gave_in answered events refl refl all
    ∙ parts client_gave_in answered a.reading a.heard (input_octets input) [] a.whole (gives_gave 50000000 input a.reading gives) (heard_gives_nothing a.heard sends.kind)
    ∙ append-nil (input_octets input) in
    let took = octets_within client_took_in answered events refl refl all
    ∙ parts client_took_in answered a.reading a.heard [] a.line a.whole (gives_took 50000000 (Ok input) a.reading gives) sends.took_is in
    let given = is_given input a.reading a.heard events gives (all ∙ ap (λ (l : List Event). Accepted ∷ (l ++ ClientDone ∷ [])) a.whole) gave in
    inl (
      given,
      subst (λ (l : List ℕ). ShowsObject l (flat_map client_took_in events)) (sym gave)
          (subst (λ (l : List ℕ). ShowsObject (input_octets input) l) (sym took) object),
    )

answers_told : (outcome : Result (Unit {0}) FrontError) (status : ℕ) (answered said shown events : List Event) → AnswersShow outcome answered → (status ≡ 6 → ⊥)
    → EndsOne outcome status said → events ≡ shown ++ said → shown ≡ Accepted ∷ (answered ++ ClientDone ∷ []) → Told status events
answers_told outcome status answered said shown events (Unread error.Failed reads is) well ends events_are shown_is = absurd (ends_badly outcome status said is well ends)
answers_told outcome status answered said shown events (Unread error.Memory (input, gives, other) is) well ends events_are shown_is =
    let wanting = ends_wanting outcome status said is ends in
    let all = shown_events answered said shown events events_are wanting.1 shown_is in
    inr (wanting.0, octets_within client_took_in answered events refl refl all ∙ gives_took 50000000 input answered gives)
answers_told outcome status answered said shown events (Sent a) well ends events_are shown_is =
    sent_told outcome status answered said shown events a a.sent a.sends a.outcome_is well ends events_are shown_is

none_came : (behind said shown events : List Event) → events ≡ shown ++ said → shown ≡ NoMore ∷ [] → events ≡ Accepted ∷ behind → ⊥
none_came behind said shown events is shown_is came =
    let both : NoMore ∷ said ≡ Accepted ∷ behind = sym (is ∙ ap (λ (l : List Event). l ++ said) shown_is) ∙ came in cc

shows_told : (outcome : Result (Unit {0}) FrontError) (status : ℕ) (behind said shown events : List Event) → Shows outcome shown → (status ≡ 6 → ⊥) → EndsOne outcome status said
    → events ≡ shown ++ said → events ≡ Accepted ∷ behind → Told status events
shows_told outcome status behind said shown events (NoneComes shown_is is) well ends events_are came = absurd (none_came behind said shown events events_are shown_is came)
shows_told outcome status behind said shown events (NotAccepted shown_is is) well ends events_are came = absurd (ends_badly outcome status said is well ends)
shows_told outcome status behind said shown events (Came answered shown_is answers) well ends events_are came =
    answers_told outcome status answered said shown events answers well ends events_are shown_is

other_task : (place : Place) → Once place ≡ Show → ⊥
other_task place is = cc

not_served : (place : Place) (listen : List ℕ) (most : ℕ) → Serve place listen most ≡ Show → ⊥
not_served place listen most is = cc

not_store : (listen : List ℕ) (most : ℕ) → Store listen most ≡ Show → ⊥
not_store listen most is = cc

not_checked : (store user : List ℕ) → Check store user ≡ Show → ⊥
not_checked store user is = cc

not_explained : (page : Page) → Explain page ≡ Show → ⊥
not_explained page is = cc

not_at : (task : Task) (place : Place) → IsAt task place → task ≡ Show → ⊥
not_at task place at shows = subst (λ (t : Task). IsAt t place) shows at

ran_told : {task : Task} {secrets : Hidden} {status : ℕ} {blames : Faults} (behind events : List Event) → Performed task secrets status blames events → task ≡ Show
    → (status ≡ 6 → ⊥)
    → events ≡ Accepted ∷ behind → Told status events
ran_told {task} behind events (Unopened place at opens a b) shows well came = absurd (not_at task place at shows)
ran_told behind events (ServedMany place listen most is serves) shows well came = absurd (not_served place listen most (sym is ∙ shows))
ran_told behind events (ServedOnce place is serves) shows well came = absurd (other_task place (sym is ∙ shows))
ran_told behind events (StoreUnmade listen most is a b c) shows well came = absurd (not_store listen most (sym is ∙ shows))
ran_told behind events (ServedStore listen most is serves) shows well came = absurd (not_store listen most (sym is ∙ shows))
ran_told {status = status} behind events (ShownOne is one) shows well came =
    shows_told one.outcome status behind one.said one.shown events one.shows well one.ends one.whole came
ran_told behind events (CheckLacks store user is a b c) shows well came = absurd (not_checked store user (sym is ∙ shows))
ran_told behind events (CheckedOne store user is a) shows well came = absurd (not_checked store user (sym is ∙ shows))
ran_told behind events (Explained page is one) shows well came = absurd (not_explained page (sym is ∙ shows))

-- where the status isn't 6, whoever comes with a message to be shown is told its Email object, or memory ran out
pub completes_show : {words : List (List ℕ)} {secrets : Hidden} {status : ℕ} {blames : Faults} {events : List Event} → Runs words secrets status blames events → (status ≡ 6 → ⊥)
    → CompletesShow words status events
completes_show {events = events} (Refused none a b c) well task behind came = absurd (none Show task)
completes_show {events = events} (OutOfMemory is none a) well task behind came = inr (is, ap (λ (l : List Event). flat_map client_took_in l) none)
completes_show {words} {events = events} (Done other is_task ran) well task behind came = ran_told behind events ran (same-task words other Show is_task task) well came
