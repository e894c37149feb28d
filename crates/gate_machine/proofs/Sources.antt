-- What a machine knows comes of exchanges.
use Rattle.std.proofs.Common.{arith, ◌≡◌, ◌≢◌, ◌≤◌, ◌++◌, ℕ, List, [], fold, Option, Some, None, Result, Ok, Err, refl, sym, ◌∙◌, ap, subst, inl, inr}
use Rattle.std.proofs.lemmas.List.Sums.{fold-append}
use Rattle.gate_world.specs.declared.event.Event.{Event}
use Rattle.change_list.specs.declared.list.TheConstants.{MAX_PLACE}
use Rattle.told_folder.specs.declared.exchange.Exchange.{Exchange}
use Rattle.told_mail.specs.Mail.{Mail}
use Rattle.told_mail.specs.Told.{Told}
use Rattle.told_changes.specs.Told as changes
use Rattle.mail_state.specs.History.{MailHistory, Advances, HasRoom, first_history}
use Rattle.mail_state.specs.Telling.{Begins, Goes}
use Rattle.imap_exchange.specs.declared.link_end.LinkEnd.{LinkEnd}
use Rattle.imap_exchange.specs.declared.link_end.LinkEnd.TheVariants as end
use Rattle.email_bodies.specs.Asking.{BodyAsk}
use Rattle.email_bodies.specs.Keeping.{Bodies}
use Rattle.email_bodies.specs.declared.source.MessagePlace.{MessagePlace}
use Rattle.gate_machine.specs.Fetching.{AsksStore, AsksBody, IsKept, IsTold, Ends, HasEnded, AsksBodies, NoBodies, MoreBodies, LacksBody, CallsAsk, AllAsked, RunsShort}
use Rattle.gate_machine.specs.Fetching as fetching
use Rattle.gate_machine.specs.History.{KnownMail, known_mail, served_anew}
use Rattle.gate_machine.specs.Machine.{MachineState, hearing, opened}
use Rattle.gate_machine.specs.Progress.{Progress, machine_by}
use Rattle.gate_machine.specs.Beginning.{Readies, Ready, Restart, LacksRoom, RunsRound, Settles, Same, Moves, Spends, Lacks, AsksThen, Dials, PreparesMail}
use Rattle.gate_machine.specs.Sources.{IsOfExchanges, KnowsExchanges}
use Rattle.gate_machine.proofs.Reading.{ReadingTells, round_told, fetch_told}

one_known : (j k : KnownMail) → Some j ≡ Some k → j ≡ k
one_known j k is = cc

none_known : (k : KnownMail) → Some k ≡ None → ⊥
none_known k is = cc

-- ---- machines

-- this is known
pub knows_this : (m : MachineState) (j : KnownMail) → m.known ≡ Some j → IsOfExchanges j → KnowsExchanges m
knows_this m j is of = λ k there. subst (λ (l : KnownMail). IsOfExchanges l) (one_known j k (sym is ∙ there)) of

-- nothing is
pub knows_nothing : (m : MachineState) → m.known ≡ None → KnowsExchanges m
knows_nothing m none = λ k there. absurd (none_known k (sym there ∙ none))

pub knows_same : (m n : MachineState) → n ≡ m → KnowsExchanges m → KnowsExchanges n
knows_same m n is knows = subst (λ (l : MachineState). KnowsExchanges l) (sym is) knows

nothing_passed : 0 ≤ MAX_PLACE
nothing_passed = omega arith

-- a machine that begins
pub knows_first : (epoch : ℕ) → KnowsExchanges (opened epoch)
knows_first epoch =
    knows_this (opened epoch) (known_mail (first_history epoch)) refl
    (record {
      history = Begins epoch;
      room = record { mailboxes = nothing_passed; emails = nothing_passed; threads = nothing_passed };
      exchanges = [];
      since = refl;
    })

-- ---- what is told

-- further exchanges tell it
pub heard : (k : KnownMail) (told : Told) (xs : List Exchange) → IsOfExchanges k → told.mail ≡ fold changes.told k.told.mail xs → IsOfExchanges (record k { told = told })
heard k told xs of is =
    record {
      history = of.history;
      room = of.room;
      exchanges = of.exchanges ++ xs;
      since = is ∙ ap (λ (m : Mail). fold changes.told m xs) of.since ∙ sym (fold-append changes.told k.history.mail of.exchanges xs);
    }

knows_by : (result : Result (Unit {0}) LinkEnd) (m : MachineState) → (result ≢ Err end.Memory → KnowsExchanges m) → KnowsExchanges (machine_by result m)
knows_by (Ok u) m knows = knows (λ is. cc)
knows_by (Err end.Lost) m knows = knows (λ is. cc)
knows_by (Err (end.Bad at)) m knows = knows (λ is. cc)
knows_by (Err end.Stray) m knows = knows (λ is. cc)
knows_by (Err end.Bye) m knows = knows (λ is. cc)
knows_by (Err end.TooMuch) m knows = knows (λ is. cc)
knows_by (Err end.Refused) m knows = knows (λ is. cc)
knows_by (Err end.NoQresync) m knows = knows (λ is. cc)
knows_by (Err end.Lacks) m knows = knows (λ is. cc)
knows_by (Err end.Memory) m knows = knows_nothing (machine_by (Err end.Memory) m) refl

-- the history goes on to it
went_on : (k : KnownMail) (next : MailHistory) → IsOfExchanges k → Advances k.history k.told.mail next → HasRoom next → IsOfExchanges (served_anew k next)
went_on k next of advances room =
    let to : Advances k.history (fold changes.told k.history.mail of.exchanges) next = subst (λ (m : Mail). Advances k.history m next) of.since advances in
    record {
      history = Goes k.history next of.exchanges of.history to;
      room = room;
      exchanges = [];
      since = sym (ap (λ (h : MailHistory). h.mail) advances.after_is);
    }

-- ---- the way to the mail

knows_readied : {before : MachineState} {events : List Event} {after : Progress} → Readies before events after → KnowsExchanges before → KnowsExchanges after.machine
knows_readied {before} {events} {after} (Ready k known none is) knows = knows_same before after.machine (ap (λ (p : Progress). p.machine) is) knows
knows_readied {before} {events} {after} (Restart epoch none word is) knows =
    knows_same (opened epoch) after.machine (ap (λ (p : Progress). p.machine) is) (knows_first epoch)
knows_readied {before} {events} {after} (LacksRoom epoch none word is) knows = knows_nothing after.machine (ap (λ (p : Progress). p.machine.known) is)

knows_dialed : {user password : List ℕ} {before after : Progress} {events : List Event} → Dials user password before events after → KnowsExchanges before.machine
    → KnowsExchanges after.machine
knows_dialed {before = before} {after = after} dials knows =
    knows_same (machine_by dials.result before.machine) after.machine (ap (λ (p : Progress). p.machine) dials.after_is)
    (knows_by dials.result before.machine (λ well. knows))

knows_asked : ReadingTells → {before after : Progress} {events : List Event} → RunsRound before events after → KnowsExchanges before.machine → KnowsExchanges after.machine
knows_asked law {before} {after} asks knows =
    knows_same (machine_by asks.result (hearing before.machine asks.known asks.told)) after.machine (ap (λ (p : Progress). p.machine) asks.after_is)
    (knows_by asks.result (hearing before.machine asks.known asks.told) (λ well.
    knows_this (hearing before.machine asks.known asks.told) (record asks.known { told = asks.told }) refl
    (heard asks.known asks.told asks.rounds.exchanges (knows asks.known asks.ready) (round_told law asks.rounds well))))

pub knows_settled : {before after : Progress} {events : List Event} → Settles before events after → KnowsExchanges before.machine → KnowsExchanges after.machine
knows_settled {before} {after} (Same k stands known same none is) knows = knows_same before.machine after.machine (ap (λ (p : Progress). p.machine) is) knows
knows_settled {before} {after} (Moves new next goes room none is) knows =
    knows_this after.machine (served_anew new.known next) (ap (λ (p : Progress). p.machine.known) is)
    (went_on new.known next (knows new.known new.ready) goes.advances room)
knows_settled {before} {after} (Spends new spent none is) knows = knows_nothing after.machine (ap (λ (p : Progress). p.machine.known) is)
knows_settled {before} {after} (Lacks stands none is) knows = knows_nothing after.machine (ap (λ (p : Progress). p.machine.known) is)

knows_asking : ReadingTells → {before after : Progress} {events : List Event} → AsksThen before events after → KnowsExchanges before.machine → KnowsExchanges after.machine
knows_asking law {before} {after} a knows =
    let told : KnowsExchanges a.told.machine = elim a.asks [
      | inl skips ↦ knows_same before.machine a.told.machine (ap (λ (p : Progress). p.machine) skips.2) knows
      | inr asks ↦ knows_asked law asks knows
    ] in
    elim a.settles [
      | inl skips ↦ knows_same a.told.machine after.machine (ap (λ (p : Progress). p.machine) skips.2) told
      | inr settles ↦ knows_settled settles told
    ]

-- the whole way to the mail
pub knows_on_way : ReadingTells → (user password : List ℕ) (before : MachineState) (events : List Event) (after : Progress) → PreparesMail user password before events after
    → KnowsExchanges before
    → KnowsExchanges after.machine
knows_on_way law user password before events after p knows =
    let ready : KnowsExchanges p.ready.machine = knows_readied p.readies knows in
    let connected : KnowsExchanges p.connected.machine = elim p.dials [
      | inl skips ↦ knows_same p.ready.machine p.connected.machine (ap (λ (q : Progress). q.machine) skips.2) ready
      | inr dials ↦ knows_dialed dials ready
    ] in
    knows_asking law p.asks connected

-- ---- bodies

-- other bodies are kept
kept_other : (k : KnownMail) (bodies : Bodies) → IsOfExchanges k → IsOfExchanges (record k { bodies = bodies })
kept_other k bodies of = record { history = of.history; room = of.room; exchanges = of.exchanges; since = of.since }

-- what a fetch told
knows_fetched : ReadingTells → {message : MessagePlace} {before : Progress} {result : Result (List ℕ) LinkEnd} {events : List Event} (asks : AsksStore message before result events)
    → result ≢ Err end.Memory → KnowsExchanges before.machine → IsOfExchanges (record asks.kept.known { told = asks.told })
knows_fetched law asks well knows =
    heard asks.kept.known asks.told asks.fetches.exchanges (knows asks.kept.known asks.kept.ready) (fetch_told law asks.fetches well)

knows_body : ReadingTells → {message : MessagePlace} {before after : Progress} {body : Option (List ℕ)} {events : List Event} → AsksBody message before body events after
    → KnowsExchanges before.machine → KnowsExchanges after.machine
knows_body law {after = after} (IsKept octets kept body_is none is) knows =
    knows_this after.machine _ (ap (λ (p : Progress). p.machine.known) is) (kept_other kept.known _ (knows kept.known kept.ready))
knows_body law {after = after} (IsTold octets asks body_is is) knows =
    knows_this after.machine _ (ap (λ (p : Progress). p.machine.known) is) (kept_other _ _ (knows_fetched law asks (λ no. cc) knows))
knows_body law {after = after} (Ends e asks other body_is is) knows =
    knows_this after.machine _ (ap (λ (p : Progress). p.machine.known) is)
    (knows_fetched law asks (λ same. other (let e_is : e ≡ end.Memory = cc in e_is)) knows)
knows_body law {before = before} {after = after} (HasEnded kept ended body_is none is) knows =
    knows_same before.machine after.machine (ap (λ (p : Progress). p.machine) is) knows

pub knows_bodies : ReadingTells → {before after : Progress} {asks : List BodyAsk} {events : List Event} → AsksBodies before asks events after → KnowsExchanges before.machine
    → KnowsExchanges after.machine
knows_bodies law NoBodies knows = knows
knows_bodies law (MoreBodies next bodies) knows = knows_body law next.asks (knows_bodies law bodies knows)

knows_lacking : {message : MessagePlace} {before after : Progress} {events : List Event} → LacksBody message before events after → KnowsExchanges after.machine
knows_lacking {after = after} (fetching.Unasked none is) = knows_nothing after.machine (ap (λ (p : Progress). p.machine.known) is)
knows_lacking {after = after} (fetching.Asked asks is) = knows_nothing after.machine (ap (λ (p : Progress). p.machine.known) is)
knows_lacking {after = after} (fetching.NotKept octets asks is) = knows_nothing after.machine (ap (λ (p : Progress). p.machine.known) is)

-- what the calls of a request ask
pub knows_calls : ReadingTells → (before : Progress) (asks : List BodyAsk) (events : List Event) (after : Progress) → CallsAsk before asks events after
    → KnowsExchanges before.machine → KnowsExchanges after.machine
knows_calls law before asks events after (AllAsked bodies) knows = knows_bodies law bodies knows
knows_calls law before asks events after (RunsShort short) knows = knows_lacking short.lacks
