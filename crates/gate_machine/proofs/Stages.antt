-- A request's way to the mail, stage by stage.
use Rattle.std.proofs.Common.{arith, fold, ◌≡◌, ◌≢◌, ◌++◌, ◌≤◌, ◌+◌, ℕ, true, false, List, [], Option, Some, None, Result, Ok, Err, refl, sym, ◌∙◌, ap, subst, inl, inr}
use Rattle.std.specs.Prelude.{◌∷◌, IsErrOf, OnOk, OnErr}
use Rattle.std.specs.declared.alloc.AllocError.{AllocError}
use Rattle.std.proofs.lemmas.List.{append-nil}
use Rattle.gate_world.specs.Causes.{Faults, RoseBy, Rose, LinkAlone, NoFault, no_faults}
use Rattle.gate_world.specs.declared.event.Event.{Event}
use Rattle.gate_world.specs.declared.event.Event.TheVariants.{Word}
use Rattle.told_folder.specs.declared.exchange.Exchange.{Exchange}
use Rattle.told_mail.specs.Exchanges.{tell}
use Rattle.told_mail.specs.Mail.{Mail, IsMail, IsNextMail}
use Rattle.told_mail.specs.Told.{Told}
use Rattle.imap_exchange.specs.declared.link_end.LinkEnd.{LinkEnd}
use Rattle.imap_exchange.specs.declared.link_end.LinkEnd.TheVariants as end
use Rattle.imap_client.specs.LinkLife.{LinkLife, ClientState, Stands, fresh}
use Rattle.imap_client.specs.Connecting.{Connects, Lives, Unready, Undialed, Lived, Unwelcome, Welcome}
use Rattle.imap_client.specs.Rounds.{KeepsCount, Rounds}
use Rattle.mail_state.specs.State.{ServedState, IsStateOf}
use Rattle.gate_machine.specs.History.{KnownMail, Commits, IsNewMail, IsSpent, served_anew}
use Rattle.gate_machine.specs.Holding.{AreBothReady, HoldsMachine, unready}
use Rattle.gate_machine.specs.Kept.{KeptMail, IsKeptOf}
use Rattle.gate_machine.specs.Machine.{MachineState, opened, hearing, committed, forgotten}
use Rattle.gate_machine.specs.Progress.{Progress, CameTo, Bears, StandsInLife, idle, ended_after, out_of_memory, is_up, standing_by, machine_by, kept_by, lost_by, blame_link}
use Rattle.gate_machine.specs.Beginning.{Readies, Ready, Restart, LacksRoom, ReadiesTo, Dials, RunsRound, Settles, Same, Moves, Spends, Lacks, AsksThen, DialsTo, BeginsTo}
use Rattle.gate_machine.specs.declared.machine.Machine.{Machine}
use Rattle.gate_machine.specs.declared.mail_status.MailFailure.TheVariants.{Spent}
use Rattle.gate_machine.specs.declared.mail_status.MailStatus.{MailStatus}
use Rattle.gate_machine.specs.declared.mail_status.MailStatus.TheVariants as standing

-- ---- counts

more : (b k was mid now : ℕ) → RoseBy b was mid → RoseBy k mid now → RoseBy (b + k) was now
more b k was mid now one two = omega arith

stays : (b was mid now : ℕ) → RoseBy b was mid → now ≡ mid → RoseBy b was now
stays b was mid now rose is = omega (arith, is)

lost_rose : (result : Result (Unit {0}) LinkEnd) (mid now : ℕ) → mid ≤ now → (IsErrOf result end.Lost → Rose mid now) → RoseBy (lost_by result) mid now
lost_rose (Ok u) mid now later cause = omega arith
lost_rose (Err end.Lost) mid now later cause = cause refl
lost_rose (Err (end.Bad at)) mid now later cause = omega arith
lost_rose (Err end.Stray) mid now later cause = omega arith
lost_rose (Err end.Bye) mid now later cause = omega arith
lost_rose (Err end.TooMuch) mid now later cause = omega arith
lost_rose (Err end.Refused) mid now later cause = omega arith
lost_rose (Err end.NoQresync) mid now later cause = omega arith
lost_rose (Err end.Lacks) mid now later cause = omega arith
lost_rose (Err end.Memory) mid now later cause = omega arith

-- the counts bear what the end of a call over the link is blamed on
pub bears_end : (result : Result (Unit {0}) LinkEnd) (b was mid now : Faults) → Bears b was mid → LinkAlone mid now → (IsErrOf result end.Lost → Rose mid.link now.link)
    → Bears (blame_link (lost_by result) b) was now
bears_end result b was mid now bears alone cause =
    record {
      link = more b.link (lost_by result) was.link mid.link now.link bears.link (lost_rose result mid.link now.link alone.link cause);
      keep = stays b.keep was.keep mid.keep now.keep bears.keep alone.keep;
      front = stays b.front was.front mid.front now.front bears.front alone.front;
      say = stays b.say was.say mid.say now.say bears.say alone.say;
    }

rose_none : (was : ℕ) → RoseBy 0 was was
rose_none was = omega arith

bears_none : (f : Faults) → Bears no_faults f f
bears_none f = record { link = rose_none f.link; keep = rose_none f.keep; front = rose_none f.front; say = rose_none f.say }

-- ---- the machine that is held

-- what is kept where the code's machine is ready
both_ready : (m : Option KnownMail) (a : KeptMail) → AreBothReady m (Some a) → (k : KnownMail) × (m ≡ Some k) × IsKeptOf k a
both_ready None a never = absurd never
both_ready (Some k) a kept = (k, refl, kept)

-- what the machine knows where the code's machine is ready
pub held_ready : (m : MachineState) (kept : Machine) (a : KeptMail) → HoldsMachine m kept → kept.known ≡ Some a → (k : KnownMail) × (m.known ≡ Some k) × IsKeptOf k a
held_ready m kept a held is = both_ready m.known a (subst (λ (o : Option KeptMail). AreBothReady m.known o) is held.ready)

neither_ready : (m : Option KnownMail) → AreBothReady m None → m ≡ None
neither_ready None here = refl
neither_ready (Some k) never = absurd never

-- the machine isn't ready where the code's machine isn't
pub held_unready : (m : MachineState) (kept : Machine) → HoldsMachine m kept → kept.known ≡ None → m.known ≡ None
held_unready m kept held is = neither_ready m.known (subst (λ (o : Option KeptMail). AreBothReady m.known o) is held.ready)

-- a machine that knows this is held where that is kept of it
pub holds_ready : (m : MachineState) (kept : Machine) (k : KnownMail) (a : KeptMail) → m.known ≡ Some k → kept.known ≡ Some a → IsKeptOf k a → HoldsMachine m kept
holds_ready m kept k a is kept_is so =
    record { ready = subst (λ (o : Option KnownMail). AreBothReady o kept.known) (sym is) (subst (λ (o : Option KeptMail). AreBothReady (Some k) o) (sym kept_is) so) }

-- once it isn't ready
pub holds_unready : (m : MachineState) (kept : Machine) → HoldsMachine (forgotten m) (unready kept)
holds_unready m kept = record { ready = tt }

-- once the code's machine isn't ready
pub holds_none : (m : MachineState) (kept : Machine) → kept.known ≡ None → HoldsMachine (forgotten m) kept
holds_none m kept is = record { ready = subst (λ (o : Option KeptMail). AreBothReady None o) (sym is) tt }

-- what comes to an end over the link is held by what the code makes of it; where memory ran out, whatever was told
pub holds_by : (result : Result (Unit {0}) LinkEnd) (m : MachineState) (kept : Machine) → (result ≢ Err end.Memory → HoldsMachine m kept)
    → HoldsMachine (machine_by result m) (kept_by result kept)
holds_by (Ok u) m kept held = held (λ is. cc)
holds_by (Err end.Lost) m kept held = held (λ is. cc)
holds_by (Err (end.Bad at)) m kept held = held (λ is. cc)
holds_by (Err end.Stray) m kept held = held (λ is. cc)
holds_by (Err end.Bye) m kept held = held (λ is. cc)
holds_by (Err end.TooMuch) m kept held = held (λ is. cc)
holds_by (Err end.Refused) m kept held = held (λ is. cc)
holds_by (Err end.NoQresync) m kept held = held (λ is. cc)
holds_by (Err end.Lacks) m kept held = held (λ is. cc)
holds_by (Err end.Memory) m kept held = holds_unready m kept

-- a machine that isn't ready was made ready in this epoch, or there was no memory for it
pub readied : {events : List Event} (result : Result (Unit {0}) AllocError) (epoch : ℕ) (before : MachineState) (old new : Machine) → HoldsMachine before old → old.known ≡ None
    → events ≡ Word epoch ∷ [] → OnOk result (HoldsMachine (opened epoch) new) → OnErr result (new ≡ old) → ReadiesTo before new result events
readied (Ok u) epoch before old new held none drawn ok err = (opened epoch, Restart epoch (held_unready before old held none) drawn refl, ok)
readied (Err e) epoch before old new held none drawn ok err = (
  LacksRoom epoch (held_unready before old held none) drawn refl,
  holds_none before new (ap (λ (kept : Machine). kept.known) err ∙ none),
)

-- a machine that is ready stays as it is
pub is_readied : (before : MachineState) (kept : Machine) (a : KeptMail) → HoldsMachine before kept → kept.known ≡ Some a → ReadiesTo before kept (Ok tt) []
is_readied before kept a held is = let here = held_ready before kept a held is in (before, Ready here.0 here.1 refl refl, held)

-- ---- the dial

-- no life is left to a client that isn't alive
lives_none : (result : Result (Unit {0}) LinkEnd) (e : LinkEnd) (left : Option LinkLife) (client : ClientState) → result ≡ Err e → left ≡ None → OnErr result (client ≡ fresh)
    → StandsInLife left client
lives_none result e left client is none ended_after =
    let dead : client ≡ fresh = subst (λ (r : Result (Unit {0}) LinkEnd). OnErr r (client ≡ fresh)) is ended_after in
    subst (λ (l : Option LinkLife). StandsInLife l client) (sym none) (ap (λ (c : ClientState). c.alive) dead)

holds_lived : {user password : List ℕ} {left : Option LinkLife} {client : ClientState} {result : Result (Unit {0}) LinkEnd} {events : List Event}
    → Lives user password left client result events → OnErr result (client ≡ fresh) → StandsInLife left client
holds_lived {left = left} {client = client} {result = result} (Unwelcome e u is none) ended_after = lives_none result e left client is none ended_after
holds_lived {client = client} (Welcome life after u some) ended_after = subst (λ (l : Option LinkLife). StandsInLife l client) (sym some) u.follows.stands

holds_connected : {user password : List ℕ} {left : Option LinkLife} {client : ClientState} {result : Result (Unit {0}) LinkEnd} {events : List Event}
    → Connects user password left client result events → OnErr result (client ≡ fresh) → StandsInLife left client
holds_connected {left = left} {client = client} {result = result} (Unready a is none) ended_after = lives_none result end.Memory left client is none ended_after
holds_connected {left = left} {client = client} {result = result} (Undialed a is none) ended_after = lives_none result end.Lost left client is none ended_after
holds_connected (Lived life a lives) ended_after = holds_lived lives ended_after

-- the life begins
pub dialed : {user password : List ℕ} {left : Option LinkLife} {client : ClientState} {result : Result (Unit {0}) LinkEnd} {events : List Event} (before : MachineState)
    (old machine : Machine) (how : MailStatus) (was now : Faults) → HoldsMachine before old
    → Connects user password left client result events → OnErr result (client ≡ fresh) → LinkAlone was now → (IsErrOf result end.Lost → Rose was.link now.link)
    → how ≡ standing_by result → machine ≡ kept_by result old
    → (after : Progress) × Dials user password (idle before) events after × CameTo machine client how was now after
dialed {left = left} {client = client} {result = result} before old machine how was now held connects over alone cause standing_is machine_is = (
  ended_after result (record (idle before) { left = left }),
  record { client = client; left = left; result = result; stands = refl; connects = connects; after_is = refl },
  record {
    held = subst (λ (kept : Machine). HoldsMachine (machine_by result before) kept) (sym machine_is) (holds_by result before old (λ some. held));
    standing_is = sym standing_is;
    in_life = holds_connected connects over;
    bears = bears_end result no_faults was was now (bears_none was) alone cause;
  },
)

-- ---- the round

-- a client that is alive stands in a life that goes on
pub in_life : (left : Option LinkLife) (client : ClientState) → StandsInLife left client → client.alive ≡ true → (life : LinkLife) × (left ≡ Some life) × Stands client life
in_life None client dead alive = absurd (cc (dead, alive))
in_life (Some life) client stands alive = (life, refl, stands)

-- what may follow mail follows mail before it
abbrev pub NextJoins : Type 0
NextJoins = (a b c : Mail) → IsNextMail a b → IsNextMail b c → IsNextMail a c

-- what exchanges tell can follow
abbrev pub TellingGoesOn : Type 0
TellingGoesOn = (m : Mail) (xs : List Exchange) → IsMail m → IsNextMail m (fold tell m xs)

-- what completed exchanges told can follow what was served
next_told : NextJoins → TellingGoesOn → (k : KnownMail) (a : KeptMail) (told : Told) (exchanges : List Exchange) → IsKeptOf k a → told.mail ≡ fold tell k.told.mail exchanges
    → IsNextMail k.history.mail told.mail
next_told joins goes_on k a told exchanges kept is =
    joins k.history.mail k.told.mail told.mail kept.next
    (subst (λ (m : Mail). IsNextMail k.told.mail m) (sym is) (goes_on k.told.mail exchanges kept.next.is_mail))

-- a round in the life of a client that is alive takes the work to where the round's end leaves it
pub asked : {client next : ClientState} {result : Result (Unit {0}) LinkEnd} {events : List Event} → NextJoins → TellingGoesOn → (before : Progress) (machine after : Machine)
    (how : MailStatus) (was then now : Faults) (a b : KeptMail)
    → CameTo machine client standing.Stands was then before → machine.known ≡ Some a → client.alive ≡ true
    → ((life : LinkLife) → Stands client life → (left : LinkLife) × (rounds : Rounds a.told.mail b.told.mail life left next result events)
    × KeepsCount a.told b.told result rounds.exchanges)
    → b.state ≡ a.state → b.served ≡ a.served → b.bodies ≡ a.bodies
    → LinkAlone then now → (IsErrOf result end.Lost → Rose then.link now.link)
    → how ≡ standing_by result → after ≡ kept_by result (record machine { known = Some b })
    → (p : Progress) × RunsRound before events p × CameTo after next how was now p
asked {client} {next} {result} {events} joins goes_on before machine after how was then now a b came known alive rounds state_is served_is bodies_is alone cause standing_is
    after_is =
    let here = in_life before.left client came.in_life alive in
    let of = held_ready before.machine machine a came.held known in
    let k : KnownMail = of.0 in
    let kept : IsKeptOf k a = of.2 in
    let went : (left : LinkLife) × (rounds : Rounds k.told.mail b.told.mail here.0 left next result events) × KeepsCount k.told b.told result rounds.exchanges =
    subst (λ (t : Told). (left : LinkLife) × (rounds : Rounds t.mail b.told.mail here.0 left next result events) × KeepsCount t b.told result rounds.exchanges) kept.told
    (rounds here.0 here.2) in (
      ended_after result (record before { machine = hearing before.machine k b.told; left = Some went.0 }),
      record {
        known = k;
        told = b.told;
        life = here.0;
        left = went.0;
        client = next;
        result = result;
        stands = came.standing_is;
        ready = of.1;
        in_life = here.1;
        goes_on = sym here.2.alive ∙ alive;
        rounds = went.1;
        counted = went.2;
        after_is = refl;
      },
      record {
        held = subst (λ (m : Machine). HoldsMachine (machine_by result (hearing before.machine k b.told)) m) (sym after_is)
            (holds_by result (hearing before.machine k b.told) (record machine { known = Some b }) (λ some. record {
              ready = record {
                state = subst (λ (s : ServedState). IsStateOf k.history s) (sym state_is) kept.state;
                served = served_is ∙ kept.served;
                told = refl;
                bodies = bodies_is ∙ kept.bodies;
                next = next_told joins goes_on k a b.told went.1.exchanges kept (went.1.told some);
              };
            }));
        standing_is = sym standing_is;
        in_life = went.1.follows.stands;
        bears = bears_end result before.blamed was then now came.bears alone cause;
      },
    )

-- ---- what was told is served

-- the told mail was the same, or the history went on to it
committed_to : (before : Progress) (client : ClientState) (was now : Faults) (machine after : Machine) (k l : KnownMail) (b : KeptMail)
    → CameTo machine client standing.Stands was now before → before.machine.known ≡ Some k → Commits k l → IsKeptOf l b → after.known ≡ Some b
    → (p : Progress) × Settles before [] p × CameTo after client standing.Stands was now p
committed_to before client was now machine after k l b came ready (inl same) kept after_is = (
  before,
  Same k came.standing_is ready same.0 refl refl,
  record {
    held = holds_ready before.machine after k b ready after_is (subst (λ (x : KnownMail). IsKeptOf x b) same.1 kept);
    standing_is = came.standing_is;
    in_life = came.in_life;
    bears = came.bears;
  },
)
committed_to before client was now machine after k l b came ready (inr to) kept after_is = (
  record before { machine = committed before.machine (served_anew k to.next) },
  Moves (record { known = k; stands = came.standing_is; ready = ready; is_new = to.is_new }) to.next to.goes_on to.room refl refl,
  record {
    held = holds_ready (committed before.machine (served_anew k to.next)) after (served_anew k to.next) b refl after_is
        (subst (λ (x : KnownMail). IsKeptOf x b) to.after_is kept);
    standing_is = came.standing_is;
    in_life = came.in_life;
    bears = came.bears;
  },
)

-- serving the mail that was told, where it is new, settles the work, which stands
pub settled : (before : Progress) (client : ClientState) (was now : Faults) (machine after : Machine) (a b : KeptMail)
    → CameTo machine client standing.Stands was now before → machine.known ≡ Some a
    → ((k : KnownMail) → IsKeptOf k a → (l : KnownMail) × Commits k l × IsKeptOf l b) → after.known ≡ Some b
    → (p : Progress) × Settles before [] p × CameTo after client standing.Stands was now p
settled before client was now machine after a b came known commits after_is =
    let here = held_ready before.machine machine a came.held known in
    let to = commits here.0 here.2 in
    committed_to before client was now machine after here.0 to.0 b came here.1 to.1 to.2 after_is

-- where new mail was told and no place is left for it, forgetting the mail settles the work, which fell
pub spent : (before : Progress) (client : ClientState) (was now : Faults) (machine after : Machine) (a : KeptMail)
    → CameTo machine client standing.Stands was now before → machine.known ≡ Some a → ((k : KnownMail) → IsKeptOf k a → IsNewMail k × IsSpent k) → after.known ≡ None
    → (p : Progress) × Settles before [] p × CameTo after client (standing.Unserved Spent) was now p
spent before client was now machine after a came known spends after_is =
    let here = held_ready before.machine machine a came.held known in
    let so = spends here.0 here.2 in (
      record before { machine = forgotten before.machine; standing = standing.Unserved Spent },
      Spends (record { known = here.0; stands = came.standing_is; ready = here.1; is_new = so.0 }) so.1 refl refl,
      record { held = holds_none before.machine after after_is; standing_is = refl; in_life = came.in_life; bears = came.bears },
    )

-- where memory ran out for what was told, forgetting the mail settles the work
pub lacked : (before : Progress) (client : ClientState) (was now : Faults) (machine after : Machine)
    → CameTo machine client standing.Stands was now before → after.known ≡ None
    → (p : Progress) × Settles before [] p × CameTo after client standing.OutOfMemory was now p
lacked before client was now machine after came after_is = (
  out_of_memory before,
  Lacks came.standing_is refl refl,
  record { held = holds_none before.machine after after_is; standing_is = refl; in_life = came.in_life; bears = came.bears },
)

-- ---- one after another

-- the round, and then what it told
pub asked_then : {before : Progress} {events : List Event} {client : ClientState} {machine after : Machine} {how : MailStatus} {was now : Faults}
    → (p : Progress) × RunsRound before events p × CameTo machine client standing.Stands was now p
    → ((p : Progress) → CameTo machine client standing.Stands was now p → (q : Progress) × Settles p [] q × CameTo after client how was now q)
    → (q : Progress) × AsksThen before events q × CameTo after client how was now q
asked_then {events = events} asks settles =
    let s = settles asks.0 asks.2 in
    (s.0, record { told = asks.0; asking = events; settling = []; asks = inr asks.1; settles = inr s.1; whole = sym (append-nil events) }, s.2)

fell_is_not : (p : Progress) (how : MailStatus) → p.standing ≡ how → (how ≡ standing.Stands → ⊥) → p.standing ≢ standing.Stands
fell_is_not p how is other stands = other (sym is ∙ stands)

-- the round, which doesn't stand
pub asked_only : {before : Progress} {events : List Event} {client : ClientState} {machine : Machine} {how : MailStatus} {was now : Faults}
    → (how ≡ standing.Stands → ⊥) → (p : Progress) × RunsRound before events p × CameTo machine client how was now p
    → (q : Progress) × AsksThen before events q × CameTo machine client how was now q
asked_only {events = events} {how = how} other asks = (
  asks.0,
  record {
    told = asks.0;
    asking = events;
    settling = [];
    asks = inr asks.1;
    settles = inl (fell_is_not asks.0 how asks.2.standing_is other, refl, refl);
    whole = sym (append-nil events);
  },
  asks.2,
)

-- the dial, and then the round
pub dialed_then : {user password : List ℕ} {before : MachineState} {mid machine : Machine} {client next : ClientState} {how : MailStatus} {was then now : Faults} {xs ys : List Event}
    → (p : Progress) × Dials user password (idle before) xs p × CameTo mid client standing.Stands was then p
    → ((p : Progress) (first : Faults) → CameTo mid client standing.Stands first then p → (q : Progress) × AsksThen p ys q × CameTo machine next how first now q)
    → DialsTo user password before machine next how was now (xs ++ ys)
dialed_then {was = was} {xs = xs} {ys = ys} dials asks =
    let a = asks dials.0 was dials.2 in
    record { connected = dials.0; after = a.0; connecting = xs; asking = ys; dials = dials.1; asks = a.1; whole = refl; came = a.2 }

-- the dial, which comes to nothing
pub dialed_only : {user password : List ℕ} {before : MachineState} {machine : Machine} {client : ClientState} {how : MailStatus} {was now : Faults} {xs : List Event}
    → (how ≡ standing.Stands → ⊥) → (p : Progress) × Dials user password (idle before) xs p × CameTo machine client how was now p
    → DialsTo user password before machine client how was now xs
dialed_only {how = how} {xs = xs} other dials =
    let skips : dials.0.standing ≢ standing.Stands = fell_is_not dials.0 how dials.2.standing_is other in
    record {
      connected = dials.0;
      after = dials.0;
      connecting = xs;
      asking = [];
      dials = dials.1;
      asks = record { told = dials.0; asking = []; settling = []; asks = inl (skips, refl, refl); settles = inl (skips, refl, refl); whole = refl };
      whole = sym (append-nil xs);
      came = dials.2;
    }

-- the machine is ready, and then the dial
pub begun_by : {user password : List ℕ} {before ready : MachineState} {machine : Machine} {client : ClientState} {how : MailStatus} {was now : Faults} (xs ys : List Event)
    → Readies before xs (idle ready) → DialsTo user password ready machine client how was now ys → BeginsTo user password before machine client how was now (xs ++ ys)
begun_by {ready = ready} xs ys readies dials =
    record {
      after = dials.after;
      begins = record {
        ready = idle ready;
        connected = dials.connected;
        readying = xs;
        connecting = dials.connecting;
        asking = dials.asking;
        readies = readies;
        dials = inr dials.dials;
        asks = dials.asks;
        whole = ap (λ (l : List Event). xs ++ l) dials.whole;
      };
      came = dials.came;
    }

-- there is no memory for a machine that is ready, and nothing more is done
pub begun_only : {user password : List ℕ} {before : MachineState} {machine : Machine} {client : ClientState} (f : Faults) (xs : List Event)
    → Readies before xs (out_of_memory (idle before)) → HoldsMachine (forgotten before) machine → client.alive ≡ false
    → BeginsTo user password before machine client standing.OutOfMemory f f xs
begun_only {before = before} f xs readies held dead =
    let skips : (out_of_memory (idle before)).standing ≢ standing.Stands = (λ is. cc) in
    record {
      after = out_of_memory (idle before);
      begins = record {
        ready = out_of_memory (idle before);
        connected = out_of_memory (idle before);
        readying = xs;
        connecting = [];
        asking = [];
        readies = readies;
        dials = inl (skips, refl, refl);
        asks = record {
          told = out_of_memory (idle before);
          asking = [];
          settling = [];
          asks = inl (skips, refl, refl);
          settles = inl (skips, refl, refl);
          whole = refl;
        };
        whole = sym (append-nil xs);
      };
      came = record { held = held; standing_is = refl; in_life = dead; bears = bears_none f };
    }

-- whether the link is up is what the client knows
pub up_is : (left : Option LinkLife) (client : ClientState) → StandsInLife left client → client.alive ≡ is_up left
up_is None client dead = dead
up_is (Some life) client stands = stands.alive

pub stays_borne : (b was mid now : Faults) → Bears b was mid → NoFault mid now → Bears b was now
stays_borne b was mid now bears same = subst (λ (f : Faults). Bears b was f) (sym same) bears
