-- A watched plan that is followed.
use Rattle.std.proofs.Common.{Option, None, Result, Ok, Err, ◌≡◌, ◌≢◌, ◌++◌, true, false, ℕ, List, [], ◌∷◌, fold, refl, sym, ◌∙◌, ap, subst, append_assoc}
use Rattle.std.proofs.lemmas.List.{append-nil}
use Rattle.std.proofs.lemmas.List.Sums.{fold-append}
use Rattle.std.specs.declared.alloc.AllocError.{AllocError}
use Rattle.gate_world.specs.declared.event.Event.{Event}
use Rattle.told_folder.specs.declared.exchange.Exchange.{Exchange}
use Rattle.imap_exchange.specs.declared.link_end.LinkEnd.{LinkEnd}
use Rattle.imap_exchange.specs.declared.link_end.LinkEnd.TheVariants as end
use Rattle.imap_client.specs.LinkLife.{LinkLife, ClientState, fresh}
use Rattle.imap_client.specs.Unread.{LeavesUnread}
use Rattle.imap_client.specs.Plans.{Planned, StopsAtRefusal, FollowsTo, HearsAll, HeardNone, HeardMore}
use Rattle.store_causes.specs.declared.cause.StoreCause.{StoreCause}
use Rattle.store_causes.specs.declared.notes.Notes.{Notes}
use Rattle.store_causes.specs.declared.watched.Watched.{Watched}
use Rattle.store_causes.specs.reading.Noting.{noted, cause_at}
use Rattle.store_causes.specs.reading.Following.{AsksTo, Finds, Done, Stopped, Wanting, is_memory}

abbrev pub watched_plan : {S : Type 0} → (S → Planned) → Watched S → Planned
watched_plan plan w = plan w.inner

abbrev pub WatchedHears : {S : Type 0} → (S → Planned) → (S → Exchange → S → Type 0) → Watched S → Exchange → Watched S → Type 0
WatchedHears plan hears w x v = hears w.inner x v.inner × (v.notes ≡ noted w.notes x) × ((xs : List Exchange) → plan v.inner xs ≡ plan w.inner (x ∷ xs))

inner_heard : {S : Type 0} (plan : S → Planned) (hears : S → Exchange → S → Type 0) {before after : Watched S} {xs : List Exchange}
    → HearsAll (WatchedHears plan hears) before xs after → HearsAll hears before.inner xs after.inner
inner_heard plan hears HeardNone = HeardNone
inner_heard plan hears (HeardMore x so heard) = HeardMore x (inner_heard plan hears so) heard.0

notes_after : {S : Type 0} (plan : S → Planned) (hears : S → Exchange → S → Type 0) {before after : Watched S} {xs : List Exchange}
    → HearsAll (WatchedHears plan hears) before xs after → after.notes ≡ fold noted before.notes xs
notes_after plan hears HeardNone = refl
notes_after plan hears {before} (HeardMore {xs} x so heard) =
    heard.1 ∙ ap (λ (n : Notes). noted n x) (notes_after plan hears so) ∙ sym (fold-append noted before.notes xs (x ∷ []))

plan_after : {S : Type 0} (plan : S → Planned) (hears : S → Exchange → S → Type 0) {before after : Watched S} {xs : List Exchange}
    → HearsAll (WatchedHears plan hears) before xs after → (more : List Exchange) → plan after.inner more ≡ plan before.inner (xs ++ more)
plan_after plan hears HeardNone more = refl
plan_after plan hears {before} (HeardMore {xs} x so heard) more =
    heard.2 more ∙ plan_after plan hears so (x ∷ more) ∙ ap (plan before.inner) (sym (append_assoc xs (x ∷ []) more))

abbrev pub WatchedFollows : {S : Type 0} → (S → Planned) → (S → Exchange → S → Type 0) → Watched S → Watched S → LinkLife → LinkLife → ClientState
    → Result (Unit {0}) LinkEnd → List Event → Type 0
WatchedFollows plan hears first last life left client ended events =
    FollowsTo (watched_plan plan) (WatchedHears plan hears) first last life left client ended events

-- how a plan ends
abbrev unit_ok : Result (Unit {0}) LinkEnd
unit_ok = Ok tt

abbrev unit_end : LinkEnd → Result (Unit {0}) LinkEnd
unit_end e = Err e

unit_ok_not : (e : LinkEnd) → unit_ok ≡ unit_end e → ⊥
unit_ok_not e is = cc

same_end : (e f : LinkEnd) → unit_end e ≡ unit_end f → e ≡ f
same_end e f is = cc

true_not_false : true ≡ false → ⊥
true_not_false is = cc

memory_not : (e : LinkEnd) → is_memory e ≡ false → e ≢ end.Memory
memory_not e other is = true_not_false (sym (ap is_memory is) ∙ other)

-- all is done
pub asked_done : {S : Type 0} {plan : S → Planned} {hears : S → Exchange → S → Type 0} {first last : Watched S} {life left : LinkLife} {client : ClientState} {es : List Event}
    (unread : List ℕ) → (StopsAtRefusal (plan first.inner) → client.alive ≡ true) → WatchedFollows plan hears first last life left client (Ok tt) es
    → AsksTo plan hears first.inner last.inner first.notes last.notes life left client unread (Ok None) es
asked_done {plan = plan} {hears = hears} {first = first} {last} unread alive to =
    let heard = to.heard (λ is. unit_ok_not end.Memory is) in
    record {
      exchanges = to.exchanges;
      ended = Ok tt;
      follows = to.follows;
      finds = Done;
      told = λ _. inner_heard plan hears heard;
      let_in = λ _. ap (λ (n : Notes). n.let_in) (notes_after plan hears heard);
      noted_is = λ _. notes_after plan hears heard;
      goes_on = λ _ stops. alive stops;
      is_over = λ e is. absurd (unit_ok_not e is);
      leaves = tt;
    }

-- out of memory
pub asked_wants : {S : Type 0} {plan : S → Planned} {hears : S → Exchange → S → Type 0} {first last : Watched S} {life left : LinkLife} {client : ClientState} {es : List Event}
    (e : LinkEnd) (f : AllocError) (state : S) (notes : Notes) (unread : List ℕ) → client ≡ fresh → LeavesUnread e left.gave unread
    → WatchedFollows plan hears first last life left client (Err e) es → AsksTo plan hears first.inner state first.notes notes life left client unread (Err f) es
asked_wants e f state notes unread over leaves to =
    record {
      exchanges = to.exchanges;
      ended = Err e;
      follows = to.follows;
      finds = Wanting e f;
      told = λ never. absurd never;
      let_in = λ never. absurd never;
      noted_is = λ is. absurd (unit_ok_not e (sym is));
      goes_on = λ is stops. absurd (unit_ok_not e (sym is));
      is_over = λ g is. ap (λ (c : ClientState). c.alive) over;
      leaves = leaves;
    }

-- a cause, which is taken out of the notes
pub asked_stops : {S : Type 0} {plan : S → Planned} {hears : S → Exchange → S → Type 0} {first last : Watched S} {life left : LinkLife} {client : ClientState} {es : List Event}
    (e : LinkEnd) (cause : Option StoreCause) (state : S) (notes : Notes) (unread : List ℕ) → client ≡ fresh → LeavesUnread e left.gave unread
    → is_memory e ≡ false → cause ≡ cause_at last.notes (plan last.inner []) e
    → state ≡ last.inner → notes.let_in ≡ last.notes.let_in → WatchedFollows plan hears first last life left client (Err e) es
    → AsksTo plan hears first.inner state first.notes notes life left client unread (Ok cause) es
asked_stops {plan = plan} {hears = hears} {first = first} {last} e cause state notes unread over leaves other cause_is state_is in_is to =
    let heard = to.heard (λ is. memory_not e other (same_end e end.Memory is)) in
    let due_is : plan last.inner [] ≡ plan first.inner to.exchanges = plan_after plan hears heard [] ∙ ap (plan first.inner) (append-nil to.exchanges) in
    let found : cause_at (fold noted first.notes to.exchanges) (plan first.inner to.exchanges) e ≡ cause =
    sym (cause_is ∙ (λ i. cause_at (notes_after plan hears heard i) (due_is i) e)) in
    record {
      exchanges = to.exchanges;
      ended = Err e;
      follows = to.follows;
      finds = subst (λ (c : Option StoreCause). Finds (plan first.inner to.exchanges) (fold noted first.notes to.exchanges) (Err e) (Ok c)) found (Stopped e other);
      told = λ _. subst (λ (s : _). HearsAll hears first.inner to.exchanges s) (sym state_is) (inner_heard plan hears heard);
      let_in = λ _. in_is ∙ ap (λ (n : Notes). n.let_in) (notes_after plan hears heard);
      noted_is = λ is. absurd (unit_ok_not e (sym is));
      goes_on = λ is stops. absurd (unit_ok_not e (sym is));
      is_over = λ g is. ap (λ (c : ClientState). c.alive) over;
      leaves = leaves;
    }
