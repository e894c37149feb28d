-- A store that obeys, and the bodies that come.
use Rattle.std.proofs.Common.{arith, ◌≡◌, ◌≢◌, ◌+◌, ℕ, true, false, List, Option, Some, Result, Ok, Err, refl, sym, ◌∙◌, ap, subst, inl, inr}
use Rattle.std.specs.Prelude.{IsSome}
use Rattle.std.proofs.lemmas.List.Elements.{All-nil, All-push}
use Rattle.gate_world.specs.Causes.{Faults, no_faults}
use Rattle.gate_world.specs.declared.event.Event.{Event}
use Rattle.email_bodies.specs.Asking.{BodyAsk}
use Rattle.email_bodies.specs.declared.source.MessagePlace.{MessagePlace}
use Rattle.told_mail.specs.Mail.{Mail}
use Rattle.imap_exchange.specs.declared.link_end.LinkEnd.{LinkEnd}
use Rattle.imap_exchange.specs.declared.link_end.LinkEnd.TheVariants as end
use Rattle.imap_client.specs.Bodies.{FetchesBody}
use Rattle.imap_client.specs.LinkLife.{LinkLife, ClientState}
use Rattle.imap_client.specs.Rounds.{Rounds}
use Rattle.gate_machine.specs.Beginning.{RunsRound, Settles, Same, Moves, Spends, Lacks, AsksThen, PreparesMail}
use Rattle.gate_machine.specs.Fetching.{AsksStore, after_asking, AsksBody, IsKept, IsTold, Ends, HasEnded, AsksBodies, NoBodies, MoreBodies}
use Rattle.gate_machine.specs.Machine.{MachineState}
use Rattle.gate_machine.specs.Obeying.{IsFetchObeyed, IsAskObeyed, AreAsksObeyed, HasCome, AllCame}
use Rattle.gate_machine.specs.Progress.{Progress, is_up, lost_by, blame_link, standing_by}
use Rattle.gate_machine.specs.declared.mail_status.MailStatus.TheVariants.{Stands}
use Rattle.gate_machine.proofs.Owed.{Law, settles_from}

-- what is proved of rounds, and of fetches of bodies
abbrev pub RoundsGoOn : Type 0
RoundsGoOn = (before after : Mail) (life left : LinkLife) (client : ClientState) (events : List Event) → Rounds before after life left client (Ok tt) events
    → life.goes_on ≡ true → left.goes_on ≡ true

abbrev pub FetchesGoOn : Type 0
FetchesGoOn = (folder uid : ℕ) (before after : Mail) (life left : LinkLife) (client : ClientState) (octets : List ℕ) (events : List Event)
    → FetchesBody folder uid before after life left client (Ok octets) events → life.goes_on ≡ true → left.goes_on ≡ true

-- ---- the round

stands_ok : (result : Result (Unit {0}) LinkEnd) → standing_by result ≡ Stands → result ≡ Ok tt
stands_ok (Ok u) is = refl
stands_ok (Err end.Memory) is = absurd (cc is)
stands_ok (Err end.Lost) is = absurd (cc is)
stands_ok (Err (end.Bad at)) is = absurd (cc is)
stands_ok (Err end.Bye) is = absurd (cc is)
stands_ok (Err end.Stray) is = absurd (cc is)
stands_ok (Err end.TooMuch) is = absurd (cc is)
stands_ok (Err end.Refused) is = absurd (cc is)
stands_ok (Err end.NoQresync) is = absurd (cc is)
stands_ok (Err end.Lacks) is = absurd (cc is)

round_up : RoundsGoOn → {before after : Progress} {events : List Event} → RunsRound before events after → after.standing ≡ Stands → is_up after.left ≡ true
round_up law {before} {after} {events} r stands =
    let ok : r.result ≡ Ok tt = stands_ok r.result (sym (ap (λ (p : Progress). p.standing) r.after_is) ∙ stands) in
    let rounds = subst (λ (x : Result (Unit {0}) LinkEnd). Rounds r.known.told.mail r.told.mail r.life r.left r.client x events) ok r.rounds in
    ap (λ (p : Progress). is_up p.left) r.after_is ∙ law r.known.told.mail r.told.mail r.life r.left r.client events rounds r.goes_on

-- where what was told is served, it stood, and the link is as it was
settled_as : {before after : Progress} {events : List Event} → Settles before events after → after.standing ≡ Stands → is_up after.left ≡ is_up before.left
settled_as (Same k is a b c d) stands = ap (λ (p : Progress). is_up p.left) d
settled_as (Moves new next a b c d) stands = ap (λ (p : Progress). is_up p.left) d
settled_as (Spends new a b c) stands = absurd (cc (sym (ap (λ (p : Progress). p.standing) c) ∙ stands))
settled_as (Lacks is a b) stands = absurd (cc (sym (ap (λ (p : Progress). p.standing) b) ∙ stands))

asks_up : RoundsGoOn → {before after : Progress} {events : List Event} → AsksThen before events after → after.standing ≡ Stands → is_up after.left ≡ true
asks_up law {before} {after} a stands = elim a.settles [
  | inl skips ↦ absurd (skips.0 (ap (λ (p : Progress). p.standing) (sym skips.2) ∙ stands))
  | inr settles ↦ elim a.asks [
    | inl passed ↦ absurd (passed.0 (ap (λ (p : Progress). p.standing) (sym passed.2) ∙ settles_from settles))
    | inr asks ↦ settled_as settles stands ∙ round_up law asks (settles_from settles)
  ]
]

-- once a round stands the link is up
pub prepared_up : RoundsGoOn → (user password : List ℕ) (before : MachineState) (events : List Event) (after : Progress) → PreparesMail user password before events after
    → after.standing ≡ Stands → is_up after.left ≡ true
prepared_up law user password before events after b stands = asks_up law b.asks stands

-- ---- bodies

none_lost : (n : ℕ) → n + 1 ≡ 0 → ⊥
none_lost n is = absurd (omega (arith, is))

-- nothing was blamed before
unblamed : (n : ℕ) (f : Faults) → blame_link n f ≡ no_faults → f ≡ no_faults
unblamed n f is = λ i. record {
  link = let sum : f.link + n ≡ 0 = ap (λ (g : Faults). g.link) is in (let none : f.link ≡ 0 = omega (arith, sum) in none) i;
  keep = ap (λ (g : Faults). g.keep) is i;
  front = ap (λ (g : Faults). g.front) is i;
  say = ap (λ (g : Faults). g.say) is i;
}

unblamed_before : {message : MessagePlace} {p q : Progress} {body : Option (List ℕ)} {events : List Event} → AsksBody message p body events q → q.blamed ≡ no_faults
    → p.blamed ≡ no_faults
unblamed_before (IsKept octets kept body_is none is) free = ap (λ (x : Progress). x.blamed) (sym is) ∙ free
unblamed_before {p = p} (IsTold octets asks body_is is) free = unblamed 0 p.blamed (ap (λ (x : Progress). x.blamed) (sym is) ∙ free)
unblamed_before {p = p} (Ends e asks other body_is is) free = unblamed _ p.blamed (ap (λ (x : Progress). x.blamed) (sym is) ∙ free)
unblamed_before (HasEnded kept ended body_is none is) free = ap (λ (x : Progress). x.blamed) (sym is) ∙ free

-- what a body comes to: it is there, and the link is up
abbrev Comes : Option (List ℕ) → Progress → Type 0
Comes body q = (octets : List ℕ) × (body ≡ Some octets) × (is_up q.left ≡ true)

-- a fetch that is obeyed doesn't end so
not_ended : Law → {message : MessagePlace} {p : Progress} {events : List Event} (e : LinkEnd) (asks : AsksStore message p (Err e) events) → IsFetchObeyed asks → e ≢ end.Memory
    → (after_asking asks).blamed ≡ no_faults → ⊥
not_ended law {message} {p} {events} e asks obeyed other free = elim (law _ asks.life asks.left asks.fetches.exchanges asks.client (Err e) events asks.fetches.follows obeyed) [
  | inl ok ↦ absurd (cc ok)
  | inr (inl lost) ↦
      let blames : blame_link 1 p.blamed ≡ no_faults = ap (λ (r : Result (Unit {0}) LinkEnd). blame_link (lost_by r) p.blamed) (sym lost) ∙ free in
      none_lost p.blamed.link (ap (λ (f : Faults). f.link) blames)
  | inr (inr memory) ↦ other (let both : Err e ≡ Err end.Memory = memory in cc)
]

body_comes : Law → FetchesGoOn → {message : MessagePlace} {p q : Progress} {body : Option (List ℕ)} {events : List Event} (asks : AsksBody message p body events q)
    → is_up p.left ≡ true → IsAskObeyed asks → q.blamed ≡ no_faults → Comes body q
body_comes law go (IsKept octets kept body_is none is) up obeyed free = (octets, body_is, ap (λ (x : Progress). is_up x.left) is ∙ up)
body_comes law go {message} {events = events} (IsTold octets asks body_is is) up obeyed free = (
  octets,
  body_is,
  ap (λ (x : Progress). is_up x.left) is
      ∙ go message.folder message.uid asks.kept.known.told.mail asks.told.mail asks.life asks.left asks.client octets events asks.fetches asks.goes_on,
)
body_comes law go (Ends e asks other body_is is) up obeyed free =
    absurd (not_ended law e asks obeyed other (ap (λ (x : Progress). x.blamed) (sym is) ∙ free))
body_comes law go (HasEnded kept ended body_is none is) up obeyed free = absurd (let never : true ≡ false = sym up ∙ ended in cc)

some_is : {body : Option (List ℕ)} (octets : List ℕ) → body ≡ Some octets → (ask : BodyAsk) → ask.body ≡ body → HasCome ask
some_is octets is ask same = subst (λ (b : Option (List ℕ)). IsSome b) (sym (same ∙ is)) refl

come_on : Law → FetchesGoOn → {before after : Progress} {asks : List BodyAsk} {events : List Event} (bodies : AsksBodies before asks events after) → is_up before.left ≡ true
    → AreAsksObeyed bodies → after.blamed ≡ no_faults → AllCame asks × (is_up after.left ≡ true)
come_on law go NoBodies up obeyed free = (All-nil HasCome, up)
come_on law go (MoreBodies {asks = asks} next bodies) up obeyed free =
    let before = come_on law go bodies up obeyed.0 (unblamed_before next.asks free) in
    let now = body_comes law go next.asks before.1 obeyed.1 free in
    (All-push HasCome asks next.ask before.0 (some_is now.0 now.1 next.ask refl), now.2)

-- each body that calls ask for comes
pub bodies_come : Law → FetchesGoOn → (before after : Progress) (asks : List BodyAsk) (events : List Event) (bodies : AsksBodies before asks events after)
    → is_up before.left ≡ true → AreAsksObeyed bodies → after.blamed ≡ no_faults → AllCame asks
bodies_come law go before after asks events bodies up obeyed free = (come_on law go bodies up obeyed free).0
