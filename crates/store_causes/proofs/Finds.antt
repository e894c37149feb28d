-- What is found by connecting, and by the rounds after it.
use Rattle.std.proofs.Common.{Option, Some, None, Result, Ok, Err, ◌≡◌, ◌++◌, Bool, true, false, ℕ, List, [], ◌∷◌, fold, refl, sym, ◌∙◌, ap, subst, append_assoc}
use Rattle.std.proofs.lemmas.List.Sums.{fold-append}
use Rattle.std.specs.declared.alloc.AllocError.{AllocError}
use Rattle.gate_world.specs.declared.event.Event.{Event}
use Rattle.gate_world.specs.declared.event.Event.TheVariants.{Dialed}
use Rattle.told_folder.specs.declared.exchange.Exchange.{Exchange}
use Rattle.told_mail.specs.Exchanges.{tell}
use Rattle.imap_exchange.specs.declared.link_end.LinkEnd.{LinkEnd}
use Rattle.imap_exchange.specs.declared.link_end.LinkEnd.TheVariants as end
use Rattle.imap_exchange.specs.Received.{Octets, nothing_given}
use Rattle.imap_exchange.specs.Answering.{HangsUp}
use Rattle.imap_client.specs.Connecting.{connect_plan, planned_from, stage_after, GreetsBy, IsGreeted, IsMet, IsUnwelcome}
use Rattle.imap_client.specs.LinkLife.{LinkLife, ClientState, Stands, selected_after, special_use}
use Rattle.imap_client.specs.Unread.{LeavesUnread}
use Rattle.imap_client.specs.Plans.{Planned, Follows, StopsAtRefusal}
use Rattle.imap_client.specs.Rounds.{round_plan}
use Rattle.imap_client.specs.declared.connection.Connection.{Connection}
use Rattle.imap_client.specs.declared.connection.Stage.{Stage}
use Rattle.imap_client.specs.declared.connection.Stage.TheVariants as stage
use Rattle.imap_client.specs.declared.plan.Due.{Due}
use Rattle.store_causes.specs.declared.cause.Asked.TheVariants as asked
use Rattle.store_causes.specs.declared.cause.StoreCause.{StoreCause}
use Rattle.store_causes.specs.declared.check.Checked.{Checked}
use Rattle.store_causes.specs.declared.notes.Notes.{Notes}
use Rattle.store_causes.specs.Causes.{DoesntFailAtOnce, let_in_after, unanswered, StopsBy, IsOutcome, AllDone, Stopped}
use Rattle.store_causes.specs.Checks.{no_mail, CanWant, FindsCause, IsCauseAlone, IsFound, AsksStore, Unconnected, Unread, Read, WantsConnected, WantsMail, WantsMore, Meets, Welcome, Unwelcome, Checks, Reached}
use Rattle.store_causes.specs.reading.Noting.{noted, unasked}
use Rattle.store_causes.specs.reading.Following.{AsksTo, Finds, GreetingFinds, beginning_by, is_unreadable, unanswered_greeting}
use Rattle.store_causes.specs.reading.Rounding.{IsReadBy, ReadsTo, ReadsOnce, ReadsTwice, WantsOnce, WantsTwice}
use Rattle.store_causes.proofs.Outcomes.{HasEnd, let_in_of, selected_of, outcome_of, wants_of}
use Rattle.store_causes.proofs.Telling.{ToldSo, can_want, outcome_told, told_by_end}

-- ---- connecting

abbrev pub connection_plan : Connection → Planned
connection_plan c = planned_from c.preauth c.user c.password c.stage

abbrev pub ConnectionHears : Connection → Exchange → Connection → Type 0
ConnectionHears c x d = d ≡ record c { stage = stage_after c.preauth c.stage x }

connecting_starts : (preauth : Bool) (user password : List ℕ) → DoesntFailAtOnce (connect_plan preauth user password)
connecting_starts preauth user password why is = cc

abbrev pub ConnectionAsks : Connection → Connection → Notes → LinkLife → LinkLife → ClientState → List ℕ → Result (Option StoreCause) AllocError → List Event → Type 0
ConnectionAsks c d left_notes life left client unread result es =
    AsksTo connection_plan ConnectionHears c d (unasked c.preauth) left_notes life left client unread result es

-- the notes of a life of which the greeting alone came
pub begun_asks : {c d : Connection} {n left_notes : Notes} {life left : LinkLife} {client : ClientState} {unread : List ℕ}
    {result : Result (Option StoreCause) AllocError} {es : List Event} → n ≡ unasked c.preauth
    → AsksTo connection_plan ConnectionHears c d n left_notes life left client unread result es → ConnectionAsks c d left_notes life left client unread result es
begun_asks {c} {d} {n} {left_notes} {life} {left} {client} {unread} {result} {es} is to =
    subst (λ (m : Notes). AsksTo connection_plan ConnectionHears c d m left_notes life left client unread result es) is to

connecting_stops : (c : Connection) → c.stage ≡ stage.Asking → StopsAtRefusal (connect_plan c.preauth c.user c.password) → StopsAtRefusal (connection_plan c)
connecting_stops c is stops = subst (λ (s : Stage). StopsAtRefusal (planned_from c.preauth c.user c.password s)) (sym is) stops

-- what is asked is what serving asks
connecting_follows : (c : Connection) {life left : LinkLife} {xs : List Exchange} {client : ClientState} {ended : Result (Unit {0}) LinkEnd} {es : List Event}
    → c.stage ≡ stage.Asking → Follows (connection_plan c) life left xs client ended es → Follows (connect_plan c.preauth c.user c.password) life left xs client ended es
connecting_follows c {life} {left} {xs} {client} {ended} {es} is f =
    subst (λ (s : Stage). Follows (planned_from c.preauth c.user c.password s) life left xs client ended es) is f

connecting_finds : (c : Connection) (xs : List Exchange) {n : Notes} {ended : Result (Unit {0}) LinkEnd} {r : Result (Option StoreCause) AllocError}
    → c.stage ≡ stage.Asking → Finds (connection_plan c xs) n ended r → Finds (connect_plan c.preauth c.user c.password xs) n ended r
connecting_finds c xs {n} {ended} {r} is f = subst (λ (s : Stage). Finds (planned_from c.preauth c.user c.password s xs) n ended r) is f

-- connecting stopped: there is a cause, where the life is over
stopped_in : (c : Connection) {life left : LinkLife} {client : ClientState} {cause : Option StoreCause} {es : List Event} (checked : Checked)
    {ended : Result (Unit {0}) LinkEnd} {xs : List Exchange} → (ended ≡ Ok tt → client.alive ≡ true) → client.alive ≡ false
    → Follows (connect_plan c.preauth c.user c.password) life left xs client ended es
    → IsOutcome c.preauth None xs (connect_plan c.preauth c.user c.password xs) ended cause → IsFound c.password c.preauth false xs [] false cause left.gave checked
    → AsksStore c.preauth c.user c.password life left client es (Ok checked)
stopped_in c checked alive dead f AllDone found = let never = sym (alive refl) ∙ dead in absurd (cc never)
stopped_in c checked {xs = xs} alive dead f (Stopped e k so) found = Unconnected xs e k checked f so found

pub unconnected : {c d : Connection} {left_notes : Notes} {life left : LinkLife} {client : ClientState} {unread : List ℕ} {es : List Event} (password : List ℕ)
    (cause : Option StoreCause) (checked : Checked) → c.password ≡ password → c.stage ≡ stage.Asking → StopsAtRefusal (connect_plan c.preauth c.user c.password) → client.alive ≡ false → checked.preauth ≡ Some c.preauth
    → checked.let_in ≡ left_notes.let_in → checked.special_use ≡ false → checked.mirror.mail ≡ no_mail → checked.cause ≡ cause
    → checked.again ≡ false → checked.beginning ≡ beginning_by password cause unread
    → ConnectionAsks c d left_notes life left client unread (Ok cause) es → AsksStore c.preauth c.user c.password life left client es (Ok checked)
unconnected {c} {left = left} {unread = unread} password cause checked same is stops dead preauth let_in special_use mail cause_is again beginning to =
    let f = connecting_follows c is to.follows in
    let outcome = outcome_of (unasked c.preauth) cause (connecting_starts c.preauth c.user c.password) f (connecting_finds c to.exchanges is to.finds) in
    stopped_in c checked (λ done. to.goes_on done (connecting_stops c is stops)) dead f outcome
    (record {
      greeting = preauth;
      let_in = let_in ∙ to.let_in tt ∙ let_in_of (unasked c.preauth) to.exchanges;
      special_use_is = special_use;
      mail = mail;
      cause_is = cause_is;
      again_is = again;
      beginning = beginning ∙ ap (λ (p : List ℕ). beginning_by p cause unread) (sym same) ∙ outcome_told c.password left.gave unread outcome to.leaves;
    })

-- out of memory while it connected
pub wants_connected : {c d : Connection} {left_notes : Notes} {life left : LinkLife} {client : ClientState} {unread : List ℕ} {es : List Event} (f : AllocError)
    → c.stage ≡ stage.Asking → ConnectionAsks c d left_notes life left client unread (Err f) es → AsksStore c.preauth c.user c.password life left client es (Err f)
wants_connected {c} {life = life} {left} {client} {es} f is to =
    let so = wants_of f to.finds in
    WantsConnected to.exchanges so.ending f
    (subst (λ (r : Result (Unit {0}) LinkEnd). Follows (connect_plan c.preauth c.user c.password) life left to.exchanges client r es) so.is (connecting_follows c is to.follows))

-- a plan over which the client isn't alive ended in an error
ended_dead : (client : ClientState) (ended : Result (Unit {0}) LinkEnd) → (ended ≡ Ok tt → client.alive ≡ true) → client.alive ≡ false → HasEnd ended
ended_dead client (Ok u) alive dead = let never = sym (alive refl) ∙ dead in absurd (cc never)
ended_dead client (Err e) alive dead = record { ending = e; is = refl }

-- out of memory once connecting stopped
pub wants_stopped : {c d : Connection} {left_notes : Notes} {life left : LinkLife} {client : ClientState} {unread : List ℕ} {es : List Event} (cause : Option StoreCause)
    (f : AllocError) → c.stage ≡ stage.Asking → StopsAtRefusal (connect_plan c.preauth c.user c.password) → client.alive ≡ false
    → ConnectionAsks c d left_notes life left client unread (Ok cause) es → AsksStore c.preauth c.user c.password life left client es (Err f)
wants_stopped {c} {life = life} {left} {client} {es = es} cause f is stops dead to =
    let so = ended_dead client to.ended (λ done. to.goes_on done (connecting_stops c is stops)) dead in
    WantsConnected to.exchanges so.ending f
    (subst (λ (r : Result (Unit {0}) LinkEnd). Follows (connect_plan c.preauth c.user c.password) life left to.exchanges client r es) so.is (connecting_follows c is to.follows))

-- ---- both

-- a plan that ended ended in Ok, where the client is alive
done_in : (client : ClientState) (ended : Result (Unit {0}) LinkEnd) → ((e : LinkEnd) → ended ≡ Err e → client.alive ≡ false) → client.alive ≡ true → ended ≡ Ok tt
done_in client (Ok u) over alive = refl
done_in client (Err e) over alive = let never = sym alive ∙ over e refl in absurd (cc never)

connected_done : {c d : Connection} {left_notes : Notes} {life mid : LinkLife} {was : ClientState} {unread : List ℕ} {cause : Option StoreCause} {first : List Event}
    → c.stage ≡ stage.Asking → was.alive ≡ true → (to : ConnectionAsks c d left_notes life mid was unread (Ok cause) first)
    → Follows (connect_plan c.preauth c.user c.password) life mid to.exchanges was (Ok tt) first
connected_done {c} {life = life} {mid} {was} {first = first} is alive to =
    subst (λ (r : Result (Unit {0}) LinkEnd). Follows (connect_plan c.preauth c.user c.password) life mid to.exchanges was r first) (done_in was to.ended to.is_over alive)
    (connecting_follows c is to.follows)

let_in_after_all : (c : Connection) (xs : List Exchange) (n : Notes) → n ≡ fold noted (unasked c.preauth) xs → n.let_in ≡ fold let_in_after c.preauth xs
let_in_after_all c xs n is = ap (λ (m : Notes). m.let_in) is ∙ let_in_of (unasked c.preauth) xs

selected_after_all : (c : Connection) (xs : List Exchange) (n : Notes) → n ≡ fold noted (unasked c.preauth) xs → n.selected ≡ fold selected_after None xs
selected_after_all c xs n is = ap (λ (m : Notes). m.selected) is ∙ selected_of (unasked c.preauth) xs

-- what is found after notes is found after the exchanges that were noted
found_of : (password : List ℕ) (preauth uses : Bool) (n : Notes) (xs ys : List Exchange) (again : Bool) (cause : Option StoreCause) (gave : List ℕ) (checked : Checked)
    → n.let_in ≡ fold let_in_after preauth xs → IsReadBy password preauth uses n ys again cause gave checked → IsFound password preauth uses xs ys again cause gave checked
found_of password preauth uses n xs ys again cause gave checked in_is by =
    record {
      greeting = by.greeting;
      let_in = by.let_in ∙ in_is;
      special_use_is = by.special_use_is;
      mail = by.mail;
      cause_is = by.cause_is;
      again_is = by.again_is;
      beginning = by.beginning;
    }

-- a client connected, and rounds were made, or memory ran out in them
pub connected : {c d : Connection} {left_notes : Notes} {life mid left : LinkLife} {was client : ClientState} {unread : List ℕ} {cause : Option StoreCause}
    {first : List Event} (second : List Event) (result : Result Checked AllocError) → c.stage ≡ stage.Asking → was.alive ≡ true
    → ConnectionAsks c d left_notes life mid was unread (Ok cause) first → ReadsTo c.password c.preauth left_notes mid left client second result
    → AsksStore c.preauth c.user c.password life left client (first ++ second) result
connected {c} {left_notes = left_notes} {mid = mid} {left = left} {was = was} {first = first} second (Ok checked) is alive to (ReadsOnce ys e k checked' f so by) =
    let in_is = let_in_after_all c to.exchanges left_notes (to.noted_is (done_in was to.ended to.is_over alive)) in
    let selected_is = selected_after_all c to.exchanges left_notes (to.noted_is (done_in was to.ended to.is_over alive)) in
    Unread to.exchanges ys mid was first second e k checked' refl (connected_done is alive to) f
    (subst (λ (b : Bool). StopsBy b (fold selected_after None to.exchanges) ys (round_plan (special_use mid) no_mail ys) e k) in_is
    (subst (λ (o : Option (List ℕ)). StopsBy left_notes.let_in o ys (round_plan (special_use mid) no_mail ys) e k) selected_is so))
    (found_of c.password c.preauth (special_use mid) left_notes to.exchanges ys false (Some k) left.gave checked' in_is by)
connected {c} {left_notes = left_notes} {mid = mid} {left = left} {was = was} {first = first} second (Ok checked) is alive to
    (ReadsTwice ys zs read met once again ended k checked' whole f g so by) =
    let in_is = let_in_after_all c to.exchanges left_notes (to.noted_is (done_in was to.ended to.is_over alive)) in
    let selected_is = selected_after_all c to.exchanges left_notes (to.noted_is (done_in was to.ended to.is_over alive)) in
    let in_both : fold let_in_after left_notes.let_in ys ≡ fold let_in_after c.preauth (to.exchanges ++ ys) =
    ap (λ (b : Bool). fold let_in_after b ys) in_is ∙ sym (fold-append let_in_after c.preauth to.exchanges ys) in
    let selected_both : fold selected_after left_notes.selected ys ≡ fold selected_after None (to.exchanges ++ ys) =
    ap (λ (o : Option (List ℕ)). fold selected_after o ys) selected_is ∙ sym (fold-append selected_after None to.exchanges ys) in
    let now : Due = round_plan (special_use mid) (fold tell no_mail ys) zs in
    Read to.exchanges ys zs mid read was met first once again ended k checked' (ap (λ (l : List Event). first ++ l) whole) (connected_done is alive to) f g
    (subst (λ (b : Bool). IsOutcome b (fold selected_after None (to.exchanges ++ ys)) zs now ended k) in_both
    (subst (λ (o : Option (List ℕ)). IsOutcome (fold let_in_after left_notes.let_in ys) o zs now ended k) selected_both so))
    (found_of c.password c.preauth (special_use mid) left_notes to.exchanges ys true k left.gave checked' in_is by)
connected {mid = mid} {was = was} {first = first} second (Err h) is alive to (WantsOnce ys ended h' f) =
    WantsMail to.exchanges ys mid was first second ended h' refl (connected_done is alive to) f
connected {mid = mid} {was = was} {first = first} second (Err h) is alive to (WantsTwice ys zs read met once again ended h' whole f g) =
    WantsMore to.exchanges ys zs mid read was met first once again ended h' (ap (λ (l : List Event). first ++ l) whole) (connected_done is alive to) f g

-- ---- a life

-- a greeting that lets the client in, and what is asked after it
pub record HasAsked (preauth : Bool) (user password : List ℕ) (result : Result Checked AllocError) (client : ClientState) (events : List Event) : Type 0 where
  pub life : LinkLife
  pub left : LinkLife
  pub met : ClientState
  pub talk : List Event
  pub asking : List Event
  pub whole : events ≡ talk ++ asking
  pub is_met : IsMet preauth life met talk
  pub asks : AsksStore preauth user password life left client asking result

pub has_asked : {xs ys : List Event} (preauth : Bool) (user password : List ℕ) (result : Result Checked AllocError) (met client : ClientState) → IsGreeted met (Ok preauth) xs
    → ((life : LinkLife) → Stands met life → (left : LinkLife) × AsksStore preauth user password life left client ys result)
    → HasAsked preauth user password result client (xs ++ ys)
has_asked {xs} {ys} preauth user password result met client (life, is_met) asks =
    let so = asks life is_met.stands in
    record { life = life; left = so.0; met = met; talk = xs; asking = ys; whole = refl; is_met = is_met; asks = so.1 }

pub welcome : {xs : List Event} (ys : List Event) (preauth : Bool) (user password : List ℕ) (result : Result Checked AllocError) (client : ClientState)
    → HasAsked preauth user password result client xs → HangsUp client.alive ys → Meets user password result (xs ++ ys)
welcome {xs} ys preauth user password result client so hangs =
    Welcome preauth so.life so.left so.met client so.talk so.asking ys (ap (λ (l : List Event). l ++ ys) so.whole ∙ append_assoc so.talk so.asking ys) so.is_met so.asks hangs

-- a greeting that isn't read, and has no breach, is out of memory
none_is_memory : (gave : List ℕ) (after : Octets) (e : LinkEnd) → GreetsBy gave after (Err e) → unanswered asked.Greeting e ≡ None → CanWant e
none_is_memory gave after end.Lost so is = absurd (cc is)
none_is_memory gave after (end.Bad at) so is = absurd (cc is)
none_is_memory gave after end.Bye so is = absurd (cc is)
none_is_memory gave after end.TooMuch so is = absurd (cc is)
none_is_memory gave after end.Memory so is = tt
none_is_memory gave after end.Stray so is = absurd so
none_is_memory gave after end.Refused so is = absurd so
none_is_memory gave after end.NoQresync so is = absurd so
none_is_memory gave after end.Lacks so is = absurd so

greeting_finds : (password : List ℕ) (e : LinkEnd) (gave unread : List ℕ) (result : Result Checked AllocError) (found : Option StoreCause) → unanswered asked.Greeting e ≡ found
    → ToldSo password found gave unread → (unanswered asked.Greeting e ≡ None → CanWant e) → GreetingFinds password found unread result
    → FindsCause password e gave result
greeting_finds password e gave unread (Ok checked) (Some c) is told memory so = (c, is, subst (λ (b : Option (List ℕ)). IsCauseAlone c b checked) told so)
greeting_finds password e gave unread (Err f) None is told memory so = memory is
greeting_finds password e gave unread (Ok checked) None is told memory so = absurd so
greeting_finds password e gave unread (Err f) (Some c) is told memory so = can_want asked.Greeting e (ap is_unreadable is ∙ so)

pub unwelcome : {es : List Event} (user password : List ℕ) (e : LinkEnd) (unread : List ℕ) (result : Result Checked AllocError) (so : IsUnwelcome e es)
    → LeavesUnread e so.gave unread → GreetingFinds password (unanswered_greeting e) unread result → Meets user password result es
unwelcome user password e unread result so leaves finds =
    Unwelcome e so
    (greeting_finds password e so.gave unread result (unanswered asked.Greeting e) refl (told_by_end password asked.Greeting e so.gave unread leaves)
    (none_is_memory so.gave nothing_given e so.greets) finds)

-- a dial, and then a life
pub reached : {xs ys : List Event} (user password user' password' : List ℕ) (result : Result Checked AllocError) → xs ≡ Dialed ∷ [] → user' ≡ user → password' ≡ password
    → Meets user' password' result ys → Checks user password result (xs ++ ys)
reached {xs} {ys} user password user' password' result is same same' meets =
    Reached ys (ap (λ (l : List Event). l ++ ys) is)
    (subst (λ (p : List ℕ). Meets user p result ys) same' (subst (λ (u : List ℕ). Meets u password' result ys) same meets))
