-- Bodies that are asked of a source, as the work on a request.
use Rattle.std.proofs.Common.{arith, ◌≡◌, ◌∙◌, ◌++◌, ℕ, List, [], ◌∷◌, Option, Some, refl, sym, ap, subst, inl, inr}
use Rattle.gate_world.specs.Causes.{Faults, LinkAlone}
use Rattle.gate_world.specs.Tape.{Adds}
use Rattle.gate_world.specs.declared.event.Event.{Event}
use Rattle.gate_world.proofs.Joins.{join, none, widen}
use Rattle.told_mail.specs.Told.{Told}
use Rattle.email_bodies.specs.Asking.{BodyAsk, unanswered, AreAsked, NoneAsked, OneMore, AreTried, AllAnswered, LastLacks, AsksInVain}
use Rattle.email_bodies.specs.declared.source.MessagePlace.{MessagePlace}
use Rattle.imap_client.specs.Rounds.{CountsOn}
use Rattle.email_bodies.specs.Keeping.{Bodies}
use Rattle.told_mail.specs.Mail.{Mail, SameMail}
use Rattle.gate_machine.specs.Fetching.{AsksBody, IsKept, IsTold, Ends, HasEnded, AsksBodies, NoBodies, MoreBodies, CallsAsk, AllAsked, RunsShort, after_asking, keeping}
use Rattle.gate_machine.specs.History.{KnownMail}
use Rattle.gate_machine.specs.Kept.{ServedMail, IsSameSince}
use Rattle.gate_machine.specs.Lending.{AnswersBody, KeepsOutside, HoldsSource, LeavesSource, Moment, RunsOut, SourceState}
use Rattle.gate_machine.specs.Progress.{Progress}

pub alone_none : (f : Faults) → LinkAlone f f
alone_none f = record { link = omega arith; keep = refl; front = refl; say = refl }

alone_joins : (a b c : Faults) → LinkAlone a b → LinkAlone b c → LinkAlone a c
alone_joins a b c one two =
    record {
      link = let p = one.link in let q = two.link in omega (arith, p, q);
      keep = two.keep ∙ one.keep;
      front = two.front ∙ one.front;
      say = two.say ∙ one.say;
    }

pub goes_on_none : (m : Moment) → KeepsOutside m m
goes_on_none m = record { alone = alone_none m.faults; hidden = refl }

goes_on_joins : {a b c : Moment} → KeepsOutside a b → KeepsOutside b c → KeepsOutside a c
goes_on_joins {a} {b} {c} one two = record { alone = alone_joins a.faults b.faults c.faults one.alone two.alone; hidden = two.hidden ∙ one.hidden }

pub counts_none : (t : Told) → CountsOn t t
counts_none t = record { rises = omega arith; stands = λ same below. refl }

counts_join : {a b c : Told} → CountsOn a b → CountsOn b c → CountsOn a c
counts_join {a} {b} {c} one two =
    record {
      rises = let p = one.rises in let q = two.rises in omega (arith, p, q);
      stands = λ same below.
          let p = one.rises in
          let q = two.rises in
          let first : b.changes ≡ a.changes = omega (arith, p, q, same) in
          let second : c.changes ≡ b.changes = omega (arith, p, q, same) in
          two.stands second below ∙ one.stands first (omega (arith, below, second));
    }

-- what asking for these bodies in order does
pub record AsksThese (asks : List BodyAsk) (before after : Moment) : Type 0 where
  pub run : Adds before.tape after.tape (λ es. (p : Progress) (was : Faults) → HoldsSource p before.source was before.faults
      → (q : Progress) × AsksBodies p asks es q × HoldsSource q after.source was after.faults)
  pub counts : CountsOn before.source.told after.source.told
  pub goes_on : KeepsOutside before after

asks_none : (m : Moment) → AsksThese [] m m
asks_none m =
    record {
      run = none m.tape _ (λ p was holds. (p, NoBodies, holds));
      counts = counts_none m.source.told;
      goes_on = goes_on_none m;
    }

asks_more : {asks : List BodyAsk} {a b c : Moment} (ask : BodyAsk) → AsksThese asks a b → AnswersBody ask.message ask.body b c → AsksThese (asks ++ ask ∷ []) a c
asks_more ask these one =
    record {
      run = join _ these.run one.run (λ es fs first then p was holds.
          let f = first p was holds in
          let t = then f.0 was f.2 in
          (t.0, MoreBodies (record { ask = ask; events = fs; after = t.0; asks = t.1 }) f.1, t.2));
      counts = counts_join these.counts one.counts;
      goes_on = goes_on_joins these.goes_on one.goes_on;
    }

module _ {S : Type 0} (moment : S → Moment) where
  abbrev pub Answers : S → MessagePlace → Option (List ℕ) → S → Type 0
  Answers before message body after = AnswersBody message body (moment before) (moment after)

  abbrev pub Lacks : S → MessagePlace → S → Type 0
  Lacks before message after = RunsOut message (moment before) (moment after)

  -- each ask after those before it
  pub asked_these : {before after : S} {asks : List BodyAsk} → AreAsked Answers before asks after → AsksThese asks (moment before) (moment after)
  asked_these {before} NoneAsked = asks_none (moment before)
  asked_these (OneMore ask asks answers) = asks_more ask (asked_these asks) answers

-- ---- the same where memory ran out

-- what asking for these bodies did up to that
pub record AsksShort (asks : List BodyAsk) (before after : Moment) : Type 0 where
  pub run : Adds before.tape after.tape (λ es. (p : Progress) (was : Faults) → HoldsSource p before.source was before.faults
      → (q : Progress) × CallsAsk p asks es q × LeavesSource q after.source was after.faults)
  pub counts : CountsOn before.source.told after.source.told
  pub goes_on : KeepsOutside before after

left_by : {p : Progress} {source : SourceState} {was now : Faults} → HoldsSource p source was now → LeavesSource p source was now
left_by holds = record { in_life = holds.in_life; bears = holds.bears }

-- after these nothing was asked
pub short_of_room : {asks : List BodyAsk} {a b : Moment} → AsksThese asks a b → AsksShort asks a b
short_of_room these =
    record {
      run = widen _ these.run (λ es run p was holds. let q = run p was holds in (q.0, AllAsked q.1, left_by q.2));
      counts = these.counts;
      goes_on = these.goes_on;
    }

-- or one more was
pub short_of_body : {asks tried : List BodyAsk} {a b c : Moment} (message : MessagePlace) → tried ≡ asks ++ unanswered message ∷ [] → AsksThese asks a b
    → RunsOut message b c → AsksShort tried a c
short_of_body {asks = asks} message is these out =
    record {
      run = join _ these.run out.run (λ es fs first then p was holds.
          let f = first p was holds in
          let t = then f.0 was f.2 in
          (t.0, RunsShort (record { asks = asks; mid = f.0; message = message; asking = es; lacking = fs; tried_are = is; asked = f.1; lacks = t.1; whole = refl }), t.2));
      counts = counts_join these.counts out.counts;
      goes_on = goes_on_joins these.goes_on out.goes_on;
    }

module _ {S : Type 0} (moment : S → Moment) where
  pub tried_these : {before after : S} {tried : List BodyAsk} → AreTried (Answers moment) (Lacks moment) before tried after
      → AsksShort tried (moment before) (moment after)
  tried_these (AllAnswered asks) = short_of_room (asked_these moment asks)
  tried_these (LastLacks message asks lacks is) = short_of_body message is (asked_these moment asks) lacks

  pub asked_in_vain : {AreAll : List BodyAsk → Type 0} {before after : S} (vain : AsksInVain (Answers moment) (Lacks moment) AreAll before after)
      → AsksShort vain.tried (moment before) (moment after)
  asked_in_vain vain = tried_these vain.are_tried

-- ---- what is lent

-- the count of the told mail goes on
pub same_on : {m : ServedMail} {old new : Told} → IsSameSince m old → CountsOn old new → IsSameSince m new
same_on {m} {old} {new} same counts =
    record {
      later = let p = same.later in let q = counts.rises in omega (arith, p, q);
      same = λ is below.
          let p = same.later in
          let q = counts.rises in
          let first : old.changes ≡ m.same_at = omega (arith, p, q, is) in
          let second : new.changes ≡ old.changes = omega (arith, p, q, is) in
          subst (λ (x : Mail). SameMail m.served x) (sym (counts.stands second below)) (same.same first (omega (arith, below, second)));
    }

-- what is known after bodies were asked has the same history
pub record StaysKnown (p q : Progress) (k : KnownMail) : Type 0 where
  pub known : KnownMail
  pub ready : q.machine.known ≡ Some known
  pub history : known.history ≡ k.history
  pub standing : q.standing ≡ p.standing

one_known : (j k : KnownMail) → Some j ≡ Some k → j ≡ k
one_known j k is = cc

stays_known : {p q : Progress} (k l : KnownMail) (bodies : Bodies) (told : Told) (m : Progress) → p.machine.known ≡ Some k → p.machine.known ≡ Some l
    → q ≡ keeping m (record l { told = told }) bodies → m.standing ≡ p.standing → StaysKnown p q k
stays_known {p} {q} k l bodies told m is js q_is stands =
    record {
      known = record l { told = told; bodies = bodies };
      ready = ap (λ (x : Progress). x.machine.known) q_is;
      history = ap (λ (x : KnownMail). x.history) (one_known l k (sym js ∙ is));
      standing = ap (λ (x : Progress). x.standing) q_is ∙ stands;
    }

body_stays : {message : MessagePlace} {p q : Progress} {body : Option (List ℕ)} {events : List Event} (k : KnownMail) → p.machine.known ≡ Some k
    → AsksBody message p body events q → StaysKnown p q k
body_stays {p = p} k is (IsKept octets kept body_is none q_is) = stays_known k kept.known _ kept.known.told p is kept.ready q_is refl
body_stays {p = p} k is (IsTold octets asks body_is q_is) = stays_known k asks.kept.known _ asks.told (after_asking asks) is asks.kept.ready q_is refl
body_stays {p = p} k is (Ends e asks other body_is q_is) =
    stays_known k asks.kept.known asks.kept.known.bodies asks.told (after_asking asks) is asks.kept.ready q_is refl
body_stays {p = p} k is (HasEnded kept ended body_is none q_is) =
    record { known = k; ready = ap (λ (x : Progress). x.machine.known) q_is ∙ is; history = refl; standing = ap (λ (x : Progress). x.standing) q_is }

pub bodies_stay : {p q : Progress} {asks : List BodyAsk} {events : List Event} (k : KnownMail) → p.machine.known ≡ Some k → AsksBodies p asks events q → StaysKnown p q k
bodies_stay k is NoBodies = record { known = k; ready = is; history = refl; standing = refl }
bodies_stay k is (MoreBodies {mid = mid} next bodies) =
    let before = bodies_stay k is bodies in
    let now = body_stays before.known before.ready next.asks in
    record { known = now.known; ready = now.ready; history = now.history ∙ before.history; standing = now.standing ∙ before.standing }
