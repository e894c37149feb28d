-- Histories go on, unless another epoch is drawn.
use Rattle.std.proofs.Common.{arith, ◌≡◌, ◌≤◌, ◌++◌, ◌∷◌, ◌⊎◌, ℕ, List, [], Option, Some, None, Result, Ok, Err, refl, sym, ◌∙◌, ap, subst, inl, inr}
use Rattle.std.proofs.Common.{Contains, append_assoc, length, length-append, take}
use Rattle.std.proofs.lemmas.List.{append-nil, take-append-le}
use Rattle.std.proofs.lemmas.List.Elements.{Contains-append_left, Contains-append_right, Contains-push}
use Rattle.gate_world.specs.declared.event.Event.{Event}
use Rattle.gate_world.specs.declared.event.Event.TheVariants.{Word}
use Rattle.change_list.specs.Advance.{Tests, advance}
use Rattle.change_list.specs.History.{Touch, value_after}
use Rattle.told_mail.specs.Told.{Told}
use Rattle.served_maps.specs.Past.{Past, gone_on}
use Rattle.mail_maps.specs.Rows.{Rows}
use Rattle.mail_maps.specs.Serve.{mailbox_tests, email_tests, thread_tests}
use Rattle.mail_state.specs.History.{MailHistory, first_history, served_mailboxes, served_emails, served_threads}
use Rattle.imap_exchange.specs.declared.link_end.LinkEnd.{LinkEnd}
use Rattle.imap_exchange.specs.declared.link_end.LinkEnd.TheVariants as end
use Rattle.email_bodies.specs.Asking.{BodyAsk}
use Rattle.email_bodies.specs.declared.source.MessagePlace.{MessagePlace}
use Rattle.gate_machine.specs.Fetching.{AsksBody, IsKept, IsTold, Ends, HasEnded, AsksBodies, NoBodies, MoreBodies, LacksBody, CallsAsk, AllAsked, RunsShort}
use Rattle.gate_machine.specs.Fetching as fetching
use Rattle.gate_machine.specs.History.{KnownMail, known_mail}
use Rattle.gate_machine.specs.Machine.{MachineState, hearing, opened}
use Rattle.gate_machine.specs.Progress.{Progress, idle, machine_by}
use Rattle.gate_machine.specs.Beginning.{Readies, Ready, Restart, LacksRoom, RunsRound, Settles, Same, Moves, Spends, Lacks, AsksThen, Dials, PreparesMail}
use Rattle.gate_machine.specs.Going.{HasGoneOn, Still, On, MachineGoesOn}
use Rattle.gate_machine.specs.Staying.{Extends, KeepsTouches, HasPlacesOf, KeepsMaps}

-- ---- what stays

extends_none : {V : Type 0} (p : Past V) → Extends p p
extends_none p = ([], sym (append-nil p.touches))

extends_on : {V : Type 0} (tests : Tests V) (p q r : Past V) (new : List (ℕ × V)) → Extends p q → r ≡ gone_on tests q new → Extends p r
extends_on {V} tests p q r new first is =
    let more : List (Touch V) = advance tests q.now new in (
      first.0 ++ more,
      ap (λ (x : Past V). x.touches) is ∙ ap (λ (l : List (Touch V)). l ++ more) first.1 ∙ append_assoc p.touches first.0 more,
    )

-- the touches of a history stay as it goes on
pub keeps_touches : {h after : MailHistory} → HasGoneOn h after → KeepsTouches h after
keeps_touches {h} Still = record { epoch = refl; mailboxes = extends_none h.mailboxes; emails = extends_none h.emails; threads = extends_none h.threads }
keeps_touches {h} {after} (On {mid = mid} m gone next advances) =
    let kept : KeepsTouches h mid = keeps_touches gone in
    let rows : Rows = after.numbered.rows in
    record {
      epoch = ap (λ (x : MailHistory). x.epoch) advances.after_is ∙ kept.epoch;
      mailboxes = extends_on mailbox_tests h.mailboxes mid.mailboxes after.mailboxes (served_mailboxes m rows) kept.mailboxes
          (ap (λ (x : MailHistory). x.mailboxes) advances.after_is);
      emails = extends_on email_tests h.emails mid.emails after.emails (served_emails rows) kept.emails (ap (λ (x : MailHistory). x.emails) advances.after_is);
      threads = extends_on thread_tests h.threads mid.threads after.threads (served_threads rows) kept.threads
          (ap (λ (x : MailHistory). x.threads) advances.after_is);
    }

-- what the touches at the front leave is what they left
module _ {V : Type 0} where
  longer : (xs ys : List (Touch V)) → length xs ≤ length (xs ++ ys)
  longer xs ys = let long = length-append xs ys in omega arith

  has_places : (before after : Past V) → Extends before after → HasPlacesOf before after
  has_places before after e =
      record {
        places = subst (λ (ts : List (Touch V)). length before.touches ≤ length ts) (sym e.1) (longer before.touches e.0);
        maps = λ place q within.
            ap (λ (ts : List (Touch V)). value_after None (take place ts) q) e.1
            ∙ ap (λ (ts : List (Touch V)). value_after None ts q) (take-append-le place before.touches e.0 within);
      }

-- and so are the maps
pub keeps_maps : {h after : MailHistory} → HasGoneOn h after → KeepsMaps h after
keeps_maps {h} {after} gone =
    let kept : KeepsTouches h after = keeps_touches gone in
    record {
      epoch = kept.epoch;
      mailboxes = has_places h.mailboxes after.mailboxes kept.mailboxes;
      emails = has_places h.emails after.emails kept.emails;
      threads = has_places h.threads after.threads kept.threads;
    }

-- ---- one step after another

one_known : (j k : KnownMail) → Some j ≡ Some k → j ≡ k
one_known j k is = cc

none_known : (k : KnownMail) → Some k ≡ None → ⊥
none_known k is = cc

gone_both : {g h i : MailHistory} → HasGoneOn g h → HasGoneOn h i → HasGoneOn g i
gone_both one Still = one
gone_both one (On m two next advances) = On m (gone_both one two) next advances

-- what is known, or that nothing is
abbrev Knows : Option KnownMail → Type 0
Knows o = (o ≡ None) ⊎ ((k : KnownMail) × (o ≡ Some k))

knows : (o : Option KnownMail) → Knows o
knows None = inl refl
knows (Some k) = inr (k, refl)

-- an epoch that was drawn is that of a history which has gone on since
drawn_on : (es fs : List Event) (g h : MailHistory) → HasGoneOn g h → Contains es (Word g.epoch) → Contains (es ++ fs) (Word h.epoch)
drawn_on es fs g h gone drawn =
    let kept : KeepsTouches g h = keeps_touches gone in
    Contains-append_left es fs (Word h.epoch) (subst (λ (e : ℕ). Contains es (Word e)) (sym kept.epoch) drawn)

abbrev GoesOnOrDrawn : List Event → MailHistory → MailHistory → Type 0
GoesOnOrDrawn events g h = HasGoneOn g h ⊎ Contains events (Word h.epoch)

-- what goes on up to a moment and after it goes on
module _ (a b c : MachineState) (es fs : List Event) (one : MachineGoesOn a es b) (two : MachineGoesOn b fs c) where
  drawn_after : (k : KnownMail) → Contains fs (Word k.history.epoch) → Contains (es ++ fs) (Word k.history.epoch)
  drawn_after k drawn = Contains-append_right es fs (Word k.history.epoch) drawn

  -- where the machine is ready between
  begun_through : (i k : KnownMail) → a.known ≡ None → b.known ≡ Some i → c.known ≡ Some k → Contains (es ++ fs) (Word k.history.epoch)
  begun_through i k none mid last = elim (two.history i k mid last) [
    | inl gone ↦ drawn_on es fs i.history k.history gone (one.begun i none mid)
    | inr drawn ↦ drawn_after k drawn
  ]

  gone_through : (i j k : KnownMail) → a.known ≡ Some j → b.known ≡ Some i → HasGoneOn i.history k.history → GoesOnOrDrawn (es ++ fs) j.history k.history
  gone_through i j k first mid gone = elim (one.history j i first mid) [
    | inl before ↦ inl (gone_both before gone)
    | inr drawn ↦ inr (drawn_on es fs i.history k.history gone drawn)
  ]

  history_through : (i j k : KnownMail) → a.known ≡ Some j → b.known ≡ Some i → c.known ≡ Some k → GoesOnOrDrawn (es ++ fs) j.history k.history
  history_through i j k first mid last = elim (two.history i k mid last) [
    | inl gone ↦ gone_through i j k first mid gone
    | inr drawn ↦ inr (drawn_after k drawn)
  ]

  pub goes_both : MachineGoesOn a (es ++ fs) c
  goes_both =
      record {
        history = λ j k first last. elim (knows b.known) [
          | inl none ↦ inr (drawn_after k (two.begun k none last))
          | inr mid ↦ history_through mid.0 j k first mid.1 last
        ];
        begun = λ k none last. elim (knows b.known) [
          | inl unknown ↦ drawn_after k (two.begun k unknown last)
          | inr mid ↦ begun_through mid.0 k none mid.1 last
        ];
      }

-- a machine that stays goes on
pub goes_still : (a b : MachineState) (events : List Event) → b ≡ a → MachineGoesOn a events b
goes_still a b events is =
    record {
      history = λ j k first last.
          inl (subst (λ (l : KnownMail). HasGoneOn j.history l.history)
          (one_known j k (sym first ∙ ap (λ (m : MachineState). m.known) (sym is) ∙ last)) Still);
      begun = λ k none last. absurd (none_known k (sym last ∙ ap (λ (m : MachineState). m.known) is ∙ none));
    }

-- further events before or after make no difference
pub goes_before : (a b : MachineState) (more es : List Event) → MachineGoesOn a es b → MachineGoesOn a (more ++ es) b
goes_before a b more es goes = goes_both a a b more es (goes_still a a more refl) goes

pub goes_after : (a b : MachineState) (es more : List Event) → MachineGoesOn a es b → MachineGoesOn a (es ++ more) b
goes_after a b es more goes = goes_both a b b es more goes (goes_still b b more refl)

-- a machine that is forgotten has no history
pub goes_nowhere : (a b : MachineState) (events : List Event) → b.known ≡ None → MachineGoesOn a events b
goes_nowhere a b events none =
    record { history = λ j k first last. absurd (none_known k (sym last ∙ none)); begun = λ k before last. absurd (none_known k (sym last ∙ none)) }

-- what goes on by some events does by events that are these
pub goes_by_events : (a b : MachineState) (es fs : List Event) → fs ≡ es → MachineGoesOn a es b → MachineGoesOn a fs b
goes_by_events a b es fs is goes = subst (λ (events : List Event). MachineGoesOn a events b) (sym is) goes

-- ---- the way to the mail

goes_by : (result : Result (Unit {0}) LinkEnd) (a b : MachineState) (es : List Event) → MachineGoesOn a es b → MachineGoesOn a es (machine_by result b)
goes_by (Ok u) a b es goes = goes
goes_by (Err end.Lost) a b es goes = goes
goes_by (Err (end.Bad at)) a b es goes = goes
goes_by (Err end.Stray) a b es goes = goes
goes_by (Err end.Bye) a b es goes = goes
goes_by (Err end.TooMuch) a b es goes = goes
goes_by (Err end.Refused) a b es goes = goes
goes_by (Err end.NoQresync) a b es goes = goes
goes_by (Err end.Lacks) a b es goes = goes
goes_by (Err end.Memory) a b es goes = goes_nowhere a (machine_by (Err end.Memory) b) es refl

-- what is told is no history yet
goes_hearing : (m : MachineState) (k : KnownMail) (told : Told) (es : List Event) → m.known ≡ Some k → MachineGoesOn m es (hearing m k told)
goes_hearing m k told es is =
    record {
      history = λ i j first last.
          inl (subst (λ (l : KnownMail). HasGoneOn i.history l.history) (one_known (record k { told = told }) j last)
          (subst (λ (l : KnownMail). HasGoneOn l.history k.history) (one_known k i (sym is ∙ first)) Still));
      begun = λ j none last. absurd (none_known k (sym is ∙ none));
    }

-- a machine that begins anew has the epoch that was drawn
begins_drawn : (epoch : ℕ) (events : List Event) (after : Progress) (k : KnownMail) → events ≡ Word epoch ∷ [] → after ≡ idle (opened epoch)
    → after.machine.known ≡ Some k
    → Contains events (Word k.history.epoch)
begins_drawn epoch events after k drawn is last =
    let is_k : known_mail (first_history epoch) ≡ k = one_known (known_mail (first_history epoch)) k (sym (ap (λ (p : Progress). p.machine.known) is) ∙ last) in
    let there : Contains (Word epoch ∷ []) (Word epoch) = Contains-push [] (Word epoch) in
    subst (λ (es : List Event). Contains es (Word k.history.epoch)) (sym drawn)
    (subst (λ (l : KnownMail). Contains (Word epoch ∷ []) (Word l.history.epoch)) is_k there)

goes_readied : {before : MachineState} {events : List Event} {after : Progress} → Readies before events after → MachineGoesOn before events after.machine
goes_readied {before} {events} {after} (Ready k known none is) = goes_still before after.machine events (ap (λ (p : Progress). p.machine) is)
goes_readied {before} {events} {after} (Restart epoch none word is) =
    record {
      history = λ j k first last. absurd (none_known j (sym first ∙ none));
      begun = λ k unknown last. begins_drawn epoch events after k word is last;
    }
goes_readied {before} {events} {after} (LacksRoom epoch none word is) = goes_nowhere before after.machine events (ap (λ (p : Progress). p.machine.known) is)

-- what is left by an end
goes_to : (a : MachineState) (events : List Event) (p q : Progress) → q ≡ p → MachineGoesOn a events p.machine → MachineGoesOn a events q.machine
goes_to a events p q is goes = subst (λ (x : Progress). MachineGoesOn a events x.machine) (sym is) goes

goes_asked : {before after : Progress} {events : List Event} → RunsRound before events after → MachineGoesOn before.machine events after.machine
goes_asked {before} {after} {events} asks =
    goes_to before.machine events _ after asks.after_is
    (goes_by asks.result before.machine (hearing before.machine asks.known asks.told) events
    (goes_hearing before.machine asks.known asks.told events asks.ready))

pub goes_settled : {before after : Progress} {events : List Event} → Settles before events after → MachineGoesOn before.machine events after.machine
goes_settled {before} {after} {events} (Same k stands known same none is) = goes_still before.machine after.machine events (ap (λ (p : Progress). p.machine) is)
goes_settled {before} {after} {events} (Moves new next goes room none is) =
    record {
      history = λ j k first last.
          inl (subst (λ (l : KnownMail). HasGoneOn j.history l.history)
          (one_known (record new.known { history = next }) k (sym (ap (λ (p : Progress). p.machine.known) is) ∙ last))
          (subst (λ (l : KnownMail). HasGoneOn l.history next) (one_known new.known j (sym new.ready ∙ first)) (On new.known.told.mail Still goes.next goes.advances)));
      begun = λ k nothing last. absurd (none_known new.known (sym new.ready ∙ nothing));
    }
goes_settled {before} {after} {events} (Spends new spent none is) = goes_nowhere before.machine after.machine events (ap (λ (p : Progress). p.machine.known) is)
goes_settled {before} {after} {events} (Lacks stands none is) = goes_nowhere before.machine after.machine events (ap (λ (p : Progress). p.machine.known) is)

goes_asking : {before after : Progress} {events : List Event} → AsksThen before events after → MachineGoesOn before.machine events after.machine
goes_asking {before} {after} {events} a =
    let first : MachineGoesOn before.machine a.asking a.told.machine = elim a.asks [
      | inl skips ↦ goes_still before.machine a.told.machine a.asking (ap (λ (p : Progress). p.machine) skips.2)
      | inr asks ↦ goes_asked asks
    ] in
    let last : MachineGoesOn a.told.machine a.settling after.machine = elim a.settles [
      | inl skips ↦ goes_still a.told.machine after.machine a.settling (ap (λ (p : Progress). p.machine) skips.2)
      | inr settles ↦ goes_settled settles
    ] in
    goes_by_events before.machine after.machine (a.asking ++ a.settling) events a.whole
    (goes_both before.machine a.told.machine after.machine a.asking a.settling first last)

goes_dialed : {user password : List ℕ} {before after : Progress} {events : List Event} → Dials user password before events after
    → MachineGoesOn before.machine events after.machine
goes_dialed {before = before} {after = after} {events = events} dials =
    goes_to before.machine events _ after dials.after_is
    (goes_by dials.result before.machine before.machine events (goes_still before.machine before.machine events refl))

-- the whole way to the mail
pub goes_on_way : (user password : List ℕ) (before : MachineState) (events : List Event) (after : Progress) → PreparesMail user password before events after
    → MachineGoesOn before events after.machine
goes_on_way user password before events after p =
    let connected : MachineGoesOn p.ready.machine p.connecting p.connected.machine = elim p.dials [
      | inl skips ↦ goes_still p.ready.machine p.connected.machine p.connecting (ap (λ (q : Progress). q.machine) skips.2)
      | inr dials ↦ goes_dialed dials
    ] in
    let from_ready : MachineGoesOn p.ready.machine (p.connecting ++ p.asking) after.machine =
    goes_both p.ready.machine p.connected.machine after.machine p.connecting p.asking connected (goes_asking p.asks) in
    goes_by_events before after.machine (p.readying ++ (p.connecting ++ p.asking)) events p.whole
    (goes_both before p.ready.machine after.machine p.readying (p.connecting ++ p.asking) (goes_readied p.readies) from_ready)

-- ---- bodies

-- where the history that is known stays
pub goes_known : (m n : MachineState) (k l : KnownMail) (es : List Event) → m.known ≡ Some k → n.known ≡ Some l → l.history ≡ k.history → MachineGoesOn m es n
goes_known m n k l es was now same =
    record {
      history = λ i j first last.
          inl (subst (λ (h : MailHistory). HasGoneOn i.history h) (sym same ∙ ap (λ (x : KnownMail). x.history) (one_known l j (sym now ∙ last)))
          (subst (λ (x : KnownMail). HasGoneOn x.history k.history) (one_known k i (sym was ∙ first)) Still));
      begun = λ j none last. absurd (none_known k (sym was ∙ none));
    }

goes_body : {message : MessagePlace} {before after : Progress} {body : Option (List ℕ)} {events : List Event} → AsksBody message before body events after
    → MachineGoesOn before.machine events after.machine
goes_body {before = before} {after = after} {events = events} (IsKept octets kept body_is none is) =
    goes_known before.machine after.machine kept.known _ events kept.ready (ap (λ (p : Progress). p.machine.known) is) refl
goes_body {before = before} {after = after} {events = events} (IsTold octets asks body_is is) =
    goes_known before.machine after.machine asks.kept.known _ events asks.kept.ready (ap (λ (p : Progress). p.machine.known) is) refl
goes_body {before = before} {after = after} {events = events} (Ends e asks other body_is is) =
    goes_known before.machine after.machine asks.kept.known _ events asks.kept.ready (ap (λ (p : Progress). p.machine.known) is) refl
goes_body {before = before} {after = after} {events = events} (HasEnded kept ended body_is none is) =
    goes_still before.machine after.machine events (ap (λ (p : Progress). p.machine) is)

pub goes_bodies : {before after : Progress} {asks : List BodyAsk} {events : List Event} → AsksBodies before asks events after
    → MachineGoesOn before.machine events after.machine
goes_bodies {before} NoBodies = goes_still before.machine before.machine [] refl
goes_bodies {before} (MoreBodies {asks} {events} {mid} next bodies) =
    goes_both before.machine mid.machine next.after.machine events next.events (goes_bodies bodies) (goes_body next.asks)

goes_lacking : {message : MessagePlace} {before after : Progress} {events : List Event} → LacksBody message before events after
    → MachineGoesOn before.machine events after.machine
goes_lacking {before = before} {after = after} {events = events} (fetching.Unasked none is) =
    goes_nowhere before.machine after.machine events (ap (λ (p : Progress). p.machine.known) is)
goes_lacking {before = before} {after = after} {events = events} (fetching.Asked asks is) =
    goes_nowhere before.machine after.machine events (ap (λ (p : Progress). p.machine.known) is)
goes_lacking {before = before} {after = after} {events = events} (fetching.NotKept octets asks is) =
    goes_nowhere before.machine after.machine events (ap (λ (p : Progress). p.machine.known) is)

-- what the calls of a request ask
pub goes_calls : (before : Progress) (asks : List BodyAsk) (events : List Event) (after : Progress) → CallsAsk before asks events after
    → MachineGoesOn before.machine events after.machine
goes_calls before asks events after (AllAsked bodies) = goes_bodies bodies
goes_calls before asks events after (RunsShort short) =
    goes_by_events before.machine after.machine (short.asking ++ short.lacking) events short.whole
    (goes_both before.machine short.mid.machine after.machine short.asking short.lacking (goes_bodies short.asked) (goes_lacking short.lacks))
