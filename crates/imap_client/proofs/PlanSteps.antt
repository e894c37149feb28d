-- A plan, exchange by exchange.
use Rattle.std.proofs.Common.{Option, Result, ◌≡◌, ◌≢◌, ◌++◌, ℕ, Bool, true, false, List, [], ◌∷◌, Ok, Err, IfErr, refl, sym, ◌∙◌, ap, subst, append_assoc}
use Rattle.std.proofs.lemmas.List.{append-nil}
use Rattle.gate_world.specs.declared.event.Event.{Event}
use Rattle.gate_world.specs.Tape.{Adds}
use Rattle.gate_world.proofs.Joins.{join, none, widen}
use Rattle.imap_types.specs.declared.command.Command.{Command}
use Rattle.imap_types.specs.declared.response.Status.TheVariants as status
use Rattle.told_folder.specs.declared.exchange.Exchange.{Exchange}
use Rattle.imap_exchange.specs.declared.link_end.LinkEnd.{LinkEnd}
use Rattle.imap_exchange.specs.declared.link_end.LinkEnd.TheVariants as end
use Rattle.imap_exchange.specs.Answering.{HangsUp}
use Rattle.imap_client.specs.declared.plan.Due.{Due}
use Rattle.imap_client.specs.declared.plan.Due.TheVariants as due
use Rattle.imap_client.specs.declared.plan.Refusal.{Refusal}
use Rattle.imap_client.specs.declared.plan.Refusal.TheVariants as refusal
use Rattle.imap_client.specs.Refusals.{refusal_end}
use Rattle.imap_client.specs.LinkLife.{LinkLife, ClientState, Stands, fresh, hung_up}
use Rattle.imap_client.specs.Unread.{LeavesUnread}
use Rattle.imap_client.specs.Calls.{IsExchanged, is_torn}
use Rattle.imap_client.specs.Plans.{Planned, StopsAtRefusal, NextExchange, Ran, Begun, Then, HearsAll, HeardNone, HeardMore, Finished, Failed, Broken, LifeHadEnded, Wanting, Follows}
use Rattle.imap_client.specs.Plans.{FollowsTo, ends_torn}
use Rattle.imap_client.proofs.Lives.{stands_ended, life_hung}

-- what is planned now is the plan after these exchanges
pub record IsAfter (plan : Planned) (heard : List Exchange) (now : Planned) : Type 0 where
  pub same : (more : List Exchange) → now more ≡ plan (heard ++ more)

-- a plan of which no exchange is heard is itself
pub after_none : (plan : Planned) → IsAfter plan [] plan
after_none plan = record { same = λ more. refl }

-- when a plan after some exchanges goes on by one more, it is the plan after all of them
pub after_more : {plan now next : Planned} {heard : List Exchange} (x : Exchange) → IsAfter plan heard now → ((more : List Exchange) → next more ≡ now (x ∷ more)) → IsAfter plan
    (heard ++ x ∷ []) next
after_more {plan} {now} {next} {heard} x so step = record { same = λ more. step more ∙ so.same (x ∷ more) ∙ ap plan (sym (append_assoc heard (x ∷ []) more)) }

-- what is due now is what the plan asks after the exchanges that are heard
pub due_after : {plan now : Planned} {heard : List Exchange} → IsAfter plan heard now → now [] ≡ plan heard
due_after {plan} {now} {heard} so = so.same [] ∙ ap plan (append-nil heard)

-- what an exchange comes to, in whatever life the client stands, whether its command is torn, and what stays unread
abbrev pub Exchanged : ClientState → Command → ClientState → Result Exchange LinkEnd → Bool → List ℕ → List Event → Type 0
Exchanged client command next result torn unread es =
    (life : LinkLife) → Stands client life → (left : LinkLife) × IsExchanged life command left next result es × (torn ≡ is_torn result left)
    × IfErr result (λ (e : LinkEnd). LeavesUnread e left.gave unread)

-- so far these exchanges were completed
pub record Going (plan : Planned) (life : LinkLife) (heard : List Exchange) (client : ClientState) (events : List Event) : Type 0 where
  pub after : LinkLife
  pub ran : Ran plan life heard after events
  pub stands : Stands client after

-- at the start no exchange is completed
pub going_none : (plan : Planned) (life : LinkLife) (client : ClientState) → Stands client life → Going plan life [] client []
going_none plan life client stands = record { after = life; ran = Begun; stands = stands }

-- one exchange more
pub going_more : {plan : Planned} {life : LinkLife} {heard : List Exchange} {client : ClientState} {xs : List Event} (ys : List Event) (command : Command) (x : Exchange)
    (next : ClientState) (torn : Bool) (unread : List ℕ) → plan heard ≡ due.Send command → Going plan life heard client xs
    → Exchanged client command next (Ok x) torn unread ys → Going plan life (heard ++ x ∷ []) next (xs ++ ys)
going_more ys command x next torn unread is so goes =
    let went = goes so.after so.stands in
    let more : NextExchange _ _ = record { before = so.after; command = command; exchange = x; after = went.0; events = ys; asked = is; completes = went.1.ends } in
    record { after = went.0; ran = Then more so.ran; stands = went.1.stands }

-- ---- a client that isn't alive

-- the last exchange was refused
pub record LastRefused (plan : Planned) (heard : List Exchange) : Type 0 where
  pub before : List Exchange
  pub command : Command
  pub last : Exchange
  pub is : heard ≡ before ++ last ∷ []
  pub due_is : plan before ≡ due.Send command
  pub refused : last.status ≢ status.Ok

done_alive_by : (plan : Planned) (heard : List Exchange) (alive : Bool) → StopsAtRefusal plan → plan heard ≡ due.Done → (alive ≡ false → LastRefused plan heard) → alive ≡ true
done_alive_by plan heard true stops is down = refl
done_alive_by plan heard false stops is down =
    let so = down refl in
    absurd (stops.stops so.before so.command so.last so.due_is so.refused (ap plan (sym so.is) ∙ is))

-- once all is done of a plan that stops at refusals, a client is alive, where one that isn't had its last exchange refused
pub done_alive : {plan : Planned} {heard : List Exchange} {alive : Bool} → StopsAtRefusal plan → plan heard ≡ due.Done → (alive ≡ false → LastRefused plan heard) → alive ≡ true
done_alive {plan} {heard} {alive} stops is down = done_alive_by plan heard alive stops is down

-- ---- its end

-- the life that is left, and what is said of it
abbrev pub Left : Planned → LinkLife → List Exchange → ClientState → Result (Unit {0}) LinkEnd → Bool → List ℕ → List Event → Type 0
Left plan life heard client result torn unread events =
    (left : LinkLife) × (follows : Follows plan life left heard client result events) × (torn ≡ ends_torn follows.ends)
    × IfErr result (λ (e : LinkEnd). LeavesUnread e left.gave unread)

-- the life is ended where it goes on
hung : {client : ClientState} {life : LinkLife} (ys : List Event) → Stands client life → HangsUp client.alive ys → HangsUp life.goes_on ys
hung ys stands hangs = subst (λ (b : Bool). HangsUp b ys) stands.alive hangs

stands_hung : {client : ClientState} {life : LinkLife} (next : ClientState) → next ≡ fresh → Stands client life → Stands next (hung_up life)
stands_hung {client} {life} next none stands = subst (λ (c : ClientState). Stands c (hung_up life)) (sym none) (stands_ended (hung_up life) refl (life_hung life stands.spelled))

-- where the command that is due isn't completed, the plan ends with the error of its exchange
pub broken : {plan : Planned} {life : LinkLife} {heard : List Exchange} {client : ClientState} {xs : List Event} (ys : List Event) (command : Command) (e : LinkEnd)
    (next : ClientState) (torn : Bool) (unread : List ℕ) → plan heard ≡ due.Send command → Going plan life heard client xs
    → Exchanged client command next (Err e) torn unread ys → Left plan life heard next (Err e) torn unread (xs ++ ys)
broken {xs = xs} ys command e next torn unread is so goes =
    let went = goes so.after so.stands in (
      went.0,
      record { after = so.after; so_far = xs; last = ys; ran = so.ran; ends = Broken command e is refl went.1.ends; whole = refl; stands = went.1.stands },
      went.2,
      went.3,
    )

-- a refusal leaves nothing unread
refused_leaves : (why : Refusal) (gave unread : List ℕ) → LeavesUnread (refusal_end why) gave unread
refused_leaves refusal.Refused gave unread = tt
refused_leaves refusal.NoQresync gave unread = tt
refused_leaves refusal.Lacks gave unread = tt

-- where the plan fails and the link is hung up, it ends with the refusal's error
pub refused : {plan : Planned} {life : LinkLife} {heard : List Exchange} {client : ClientState} {xs : List Event} (ys : List Event) (why : Refusal) (next : ClientState) (torn : Bool)
    (unread : List ℕ) → torn ≡ false → plan heard ≡ due.Fails why → next ≡ fresh → Going plan life heard client xs
    → HangsUp client.alive ys → Left plan life heard next (Err (refusal_end why)) torn unread (xs ++ ys)
refused {xs = xs} ys why next torn unread whole is none so hangs = (
  hung_up so.after,
  record {
    after = so.after;
    so_far = xs;
    last = ys;
    ran = so.ran;
    ends = Failed why is refl (hung ys so.stands hangs) refl;
    whole = refl;
    stands = stands_hung next none so.stands;
  },
  whole,
  refused_leaves why so.after.gave unread,
)

-- where memory runs out and the link is hung up, the plan ends with out of memory
pub wanting : {plan : Planned} {life : LinkLife} {heard : List Exchange} {client : ClientState} {xs : List Event} (ys : List Event) (next : ClientState) (torn : Bool)
    (unread : List ℕ) → torn ≡ false → next ≡ fresh → Going plan life heard client xs → HangsUp client.alive ys
    → Left plan life heard next (Err end.Memory) torn unread (xs ++ ys)
wanting {xs = xs} ys next torn unread whole none so hangs = (
  hung_up so.after,
  record {
    after = so.after;
    so_far = xs;
    last = ys;
    ran = so.ran;
    ends = Wanting refl (hung ys so.stands hangs) refl;
    whole = refl;
    stands = stands_hung next none so.stands;
  },
  whole,
  tt,
)

-- where a command is due and the client isn't alive, the plan ends with a lost link
pub gone : {plan : Planned} {life : LinkLife} {heard : List Exchange} {client : ClientState} {xs : List Event} (ys : List Event) (command : Command) (next : ClientState)
    (torn : Bool) (unread : List ℕ) → torn ≡ false → plan heard ≡ due.Send command → next ≡ fresh → client.alive ≡ false → Going plan life heard client xs
    → HangsUp client.alive ys → Left plan life heard next (Err end.Lost) torn unread (xs ++ ys)
gone {xs = xs} ys command next torn unread whole is none dead so hangs =
    let over = sym so.stands.alive ∙ dead in (
      so.after,
      record {
        after = so.after;
        so_far = xs;
        last = ys;
        ran = so.ran;
        ends = LifeHadEnded command is over refl (subst (λ (b : Bool). HangsUp b ys) dead hangs) refl;
        whole = refl;
        stands = subst (λ (c : ClientState). Stands c so.after) (sym none) (stands_ended so.after over so.stands.spelled);
      },
      whole,
      tt,
    )

-- where all is done, the plan ends in Ok
pub finished : {plan : Planned} {life : LinkLife} {heard : List Exchange} {client : ClientState} {xs : List Event} (torn : Bool) (unread : List ℕ) → torn ≡ false
    → plan heard ≡ due.Done → Going plan life heard client xs → Left plan life heard client (Ok tt) torn unread xs
finished {xs = xs} torn unread whole is so = (
  so.after,
  record { after = so.after; so_far = xs; last = []; ran = so.ran; ends = Finished is refl refl refl; whole = sym (append-nil xs); stands = so.stands },
  whole,
  tt,
)

-- with the plan's own state
pub told_to : {S : Type 0} {plan : S → Planned} {hears : S → Exchange → S → Type 0} {before after : S} {life : LinkLife} {heard : List Exchange} {client : ClientState}
    {result : Result (Unit {0}) LinkEnd} {torn : Bool} {es : List Event} (unread : List ℕ)
    → (result ≢ Err end.Memory → HearsAll hears before heard after) → Left (plan before) life heard client result torn unread es → (left : LinkLife)
    × (to : FollowsTo plan hears before after life left client result es) × (torn ≡ ends_torn to.follows.ends)
    × IfErr result (λ (e : LinkEnd). LeavesUnread e left.gave unread)
told_to {heard = heard} unread told (left, follows, torn_is, unread_is) =
    (left, record { exchanges = heard; follows = follows; heard = told }, torn_is, unread_is)

-- ---- a plan that is followed

-- these exchanges were heard so far
pub record Course {S : Type 0} (plan : S → Planned) (hears : S → Exchange → S → Type 0) (first now : S) (begun client : ClientState)
    (before after : Option (List Event)) : Type 0 where
  pub heard : List Exchange
  pub after_is : IsAfter (plan first) heard (plan now)
  pub told : HearsAll hears first heard now
  pub refused : client.alive ≡ false → LastRefused (plan first) heard
  pub tape : Adds before after (λ es. (life : LinkLife) → Stands begun life → Going (plan first) life heard client es)

-- how it ended
abbrev pub EndsTo : {S : Type 0} → (S → Planned) → (S → Exchange → S → Type 0) → S → S → ClientState → ClientState → Result (Unit {0}) LinkEnd → Bool → List ℕ
    → List Event → Type 0
EndsTo plan hears first last begun client result torn unread es = (life : LinkLife) → Stands begun life → (left : LinkLife)
    × (to : FollowsTo plan hears first last life left client result es) × (torn ≡ ends_torn to.follows.ends)
    × IfErr result (λ (e : LinkEnd). LeavesUnread e left.gave unread)

-- at the start of a plan that is followed no exchange is heard
pub course_none : {S : Type 0} (plan : S → Planned) (hears : S → Exchange → S → Type 0) (first : S) (client : ClientState) (at : Option (List Event)) → client.alive ≡ true
    → Course plan hears first first client client at at
course_none plan hears first client at alive =
    record {
      heard = [];
      after_is = after_none (plan first);
      told = HeardNone;
      refused = λ dead. absurd (cc (dead, alive));
      tape = none _ _ (λ life stands. going_none (plan first) life client stands);
    }

-- the command that is due, once this is due now
due_of : {S : Type 0} {plan : S → Planned} {hears : S → Exchange → S → Type 0} {first now : S} {begun client : ClientState} {before after : Option (List Event)} (now_due : Due)
    (c : Course plan hears first now begun client before after) → now_due ≡ plan now [] → plan first c.heard ≡ now_due
due_of now_due c is = sym (is ∙ due_after c.after_is)

-- one exchange more
pub course_more : {S : Type 0} {plan : S → Planned} {hears : S → Exchange → S → Type 0} {first now : S} {begun client : ClientState} {before after last : Option (List Event)}
    (next : S) (command : Command) (x : Exchange) (later_client : ClientState) (torn : Bool) (unread : List ℕ) → due.Send command ≡ plan now []
    → Course plan hears first now begun client before after → Adds after last (Exchanged client command later_client (Ok x) torn unread)
    → (x.status ≡ status.Ok → later_client.alive ≡ true) → ((xs : List Exchange) → plan next xs ≡ plan now (x ∷ xs)) → hears now x next
    → Course plan hears first next begun later_client before last
course_more {plan = plan} {first = first} {client = client} next command x later_client torn unread is c adds alive steps hear =
    let due_is = due_of (due.Send command) c is in
    record {
      heard = c.heard ++ x ∷ [];
      after_is = after_more x c.after_is steps;
      told = HeardMore x c.told hear;
      refused = λ dead. record { before = c.heard; command = command; last = x; is = refl; due_is = due_is; refused = λ ok. absurd (cc (dead, alive ok)) };
      tape = join _ c.tape adds (λ xs ys so goes life stands. going_more ys command x later_client torn unread due_is (so life stands) goes);
    }

-- the command isn't completed
pub course_broken : {S : Type 0} {plan : S → Planned} {hears : S → Exchange → S → Type 0} {first now : S} {begun client : ClientState} {before after last : Option (List Event)}
    (command : Command) (e : LinkEnd) (later_client : ClientState) (torn : Bool) (unread : List ℕ) → due.Send command ≡ plan now []
    → Course plan hears first now begun client before after → Adds after last (Exchanged client command later_client (Err e) torn unread)
    → Adds before last (EndsTo plan hears first now begun later_client (Err e) torn unread)
course_broken command e later_client torn unread is c adds =
    join _ c.tape adds
    (λ xs ys so goes life stands. told_to unread (λ _. c.told) (broken ys command e later_client torn unread (due_of (due.Send command) c is) (so life stands) goes))

-- the life ended before
pub course_gone : {S : Type 0} {plan : S → Planned} {hears : S → Exchange → S → Type 0} {first now : S} {begun client : ClientState} {before after last : Option (List Event)}
    (command : Command) (later_client : ClientState) (torn : Bool) (unread : List ℕ) → torn ≡ false → due.Send command ≡ plan now [] → later_client ≡ fresh
    → client.alive ≡ false → Course plan hears first now begun client before after → Adds after last (HangsUp client.alive) → Adds before last
    (EndsTo plan hears first now begun later_client (Err end.Lost) torn unread)
course_gone command later_client torn unread whole is ended dead c adds =
    join _ c.tape adds
    (λ xs ys so hangs life stands. told_to unread (λ _. c.told) (gone ys command later_client torn unread whole (due_of (due.Send command) c is) ended dead (so life stands) hangs))

-- the plan fails
pub course_fails : {S : Type 0} {plan : S → Planned} {hears : S → Exchange → S → Type 0} {first now : S} {begun client : ClientState} {before after last : Option (List Event)}
    (why : Refusal) (later_client : ClientState) (torn : Bool) (unread : List ℕ) → torn ≡ false → due.Fails why ≡ plan now [] → later_client ≡ fresh
    → Course plan hears first now begun client before after → Adds after last (HangsUp client.alive) → Adds before last
    (EndsTo plan hears first now begun later_client (Err (refusal_end why)) torn unread)
course_fails why later_client torn unread whole is ended c adds =
    join _ c.tape adds
    (λ xs ys so hangs life stands. told_to unread (λ _. c.told) (refused ys why later_client torn unread whole (due_of (due.Fails why) c is) ended (so life stands) hangs))

-- out of memory, whatever the plan's state is later_client
pub course_wants : {S : Type 0} {plan : S → Planned} {hears : S → Exchange → S → Type 0} {first now : S} {begun client : ClientState} {before after last : Option (List Event)}
    (state : S) (later_client : ClientState) (torn : Bool) (unread : List ℕ) → torn ≡ false → later_client ≡ fresh
    → Course plan hears first now begun client before after → Adds after last (HangsUp client.alive) → Adds before last
    (EndsTo plan hears first state begun later_client (Err end.Memory) torn unread)
course_wants state later_client torn unread whole ended c adds =
    join _ c.tape adds (λ xs ys so hangs life stands. told_to unread (λ other. absurd (other refl)) (wanting ys later_client torn unread whole ended (so life stands) hangs))

-- out of memory once an exchange was completed
pub course_wants_more : {S : Type 0} {plan : S → Planned} {hears : S → Exchange → S → Type 0} {first now : S} {begun client mid : ClientState}
    {before after later last : Option (List Event)} (state : S) (command : Command) (x : Exchange) (later_client : ClientState) (torn : Bool) (unread : List ℕ)
    → torn ≡ false → due.Send command ≡ plan now [] → later_client ≡ fresh → Course plan hears first now begun client before after
    → Adds after later (Exchanged client command mid (Ok x) torn unread) → Adds later last (HangsUp mid.alive)
    → Adds before last (EndsTo plan hears first state begun later_client (Err end.Memory) torn unread)
course_wants_more {plan = plan} {first = first} {begun = begun} {mid = mid} state command x later_client torn unread whole is ended c adds hangs =
    let gone_on = join (λ es. (life : LinkLife) → Stands begun life → Going (plan first) life (c.heard ++ x ∷ []) mid es) c.tape adds
    (λ xs ys so goes life stands. going_more ys command x mid torn unread (due_of (due.Send command) c is) (so life stands) goes) in
    join _ gone_on hangs (λ xs ys so hung life stands. told_to unread (λ other. absurd (other refl)) (wanting ys later_client torn unread whole ended (so life stands) hung))

-- all is done
pub course_done : {S : Type 0} {plan : S → Planned} {hears : S → Exchange → S → Type 0} {first now : S} {begun client : ClientState} {before after : Option (List Event)}
    (torn : Bool) (unread : List ℕ) → torn ≡ false → due.Done ≡ plan now [] → Course plan hears first now begun client before after
    → Adds before after (EndsTo plan hears first now begun client (Ok tt) torn unread)
course_done torn unread whole is c = widen _ c.tape (λ xs so life stands. told_to unread (λ _. c.told) (finished torn unread whole (due_of due.Done c is) (so life stands)))

-- once all is done of a plan that stops at refusals, the client that followed it is alive
pub course_alive : {S : Type 0} {plan : S → Planned} {hears : S → Exchange → S → Type 0} {first now : S} {begun client : ClientState} {before after : Option (List Event)}
    → due.Done ≡ plan now []
    → Course plan hears first now begun client before after → StopsAtRefusal (plan first) → client.alive ≡ true
course_alive is c stops = done_alive stops (due_of due.Done c is) c.refused
