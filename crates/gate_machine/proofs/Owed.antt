-- A store that obeys, and what comes of it.
use Rattle.std.proofs.Common.{arith, ◌≡◌, ◌≢◌, ◌⊎◌, ◌+◌, ◌++◌, ℕ, Bool, List, [], ◌∷◌, length, fold, if◌then◌else◌, Option, Some, None, Result, Ok, Err, refl, sym, ◌∙◌, ap, subst}
use Rattle.std.proofs.Common.{inl, inr}
use Rattle.std.specs.List.{flat_map}
use Rattle.std.proofs.lemmas.List.{append-nil}
use Rattle.std.proofs.lemmas.List.Concat.{flat_map-append}
use Rattle.gate_world.specs.Causes.{Faults, no_faults}
use Rattle.gate_world.specs.Octets.{store_gave_in, Talk}
use Rattle.gate_world.specs.declared.event.Event.{Event}
use Rattle.gate_world.specs.declared.event.Event.TheVariants.{LinkEnded}
use Rattle.imap_types.specs.declared.response.Response.{Response}
use Rattle.imap_grammar.proofs.Spellings.{need_more_none, bad_none}
use Rattle.told_folder.specs.declared.exchange.Exchange.{Exchange}
use Rattle.imap_exchange.specs.declared.link_end.LinkEnd.{LinkEnd}
use Rattle.imap_exchange.specs.declared.link_end.LinkEnd.TheVariants as end
use Rattle.imap_exchange.specs.Begins.{Begins as begins_with}
use Rattle.imap_exchange.specs.Received.{nothing_given}
use Rattle.imap_exchange.proofs.Verdicts.{Begins-more, first_same}
use Rattle.imap_client.specs.Connecting.{GreetsBy, greeting_says, IsNew, connect_plan, Connects, Lives, Unready, Undialed, Lived, Unwelcome, Welcome}
use Rattle.imap_client.specs.LinkLife.{LinkLife, ClientState, next_number, selected, selected_after}
use Rattle.imap_client.specs.Obeying.{Obeys}
use Rattle.imap_client.specs.Plans.{Planned, Follows}
use Rattle.gate_machine.specs.Beginning.{Readies, Ready, Restart, LacksRoom, RunsRound, Settles, Same, Moves, Spends, Lacks, Dials, AsksThen, PreparesMail}
use Rattle.gate_machine.specs.History.{KnownMail, IsSpent, served_anew}
use Rattle.gate_machine.specs.Machine.{MachineState}
use Rattle.gate_machine.specs.Obeying.{given_by, ObeysIn, Welcomes, IsRoundObeyed, IsObeyedBeginning, IsServed}
use Rattle.gate_machine.specs.Progress.{Progress, standing_by, lost_by, blame_link}
use Rattle.gate_machine.specs.declared.mail_status.MailFailure.TheVariants.{Linked}
use Rattle.gate_machine.specs.declared.mail_status.MailStatus.TheVariants.{Stands, Unserved, OutOfMemory}

-- how a plan that is obeyed ends
abbrev pub EndsWell : Result (Unit {0}) LinkEnd → Type 0
EndsWell result = (result ≡ Ok tt) ⊎ (result ≡ Err end.Lost) ⊎ (result ≡ Err end.Memory)

abbrev pub Law : Type 0
Law = (plan : Planned) (life left : LinkLife) (exchanges : List Exchange) (client : ClientState) (result : Result (Unit {0}) LinkEnd) (events : List Event)
    → Follows plan life left exchanges client result events → ObeysIn plan life events → EndsWell result

-- ---- the greeting

ok_not_err : (b : Bool) (e : LinkEnd) → Ok b ≡ Err e → ⊥
ok_not_err b e is = cc

ok_same : (r : Result Bool LinkEnd) (b c : Bool) → r ≡ Ok b → r ≡ Ok c → b ≡ c
ok_same r b c one two = cc

ended_by : {result : Result (Unit {0}) LinkEnd} (e : LinkEnd) → result ≡ Err e → (e ≡ end.Lost) ⊎ (e ≡ end.Memory) → EndsWell result
ended_by e is (inl lost) = inr (inl (is ∙ ap Err lost))
ended_by e is (inr out) = inr (inr (is ∙ ap Err out))

-- a life's end gives nothing
before_end : (talk : List Event) → given_by (talk ++ LinkEnded ∷ []) ≡ flat_map store_gave_in talk
before_end talk = flat_map-append store_gave_in talk (LinkEnded ∷ []) ∙ append-nil (flat_map store_gave_in talk)

-- a greeting that lets the client in is no other reason not to go on than a lost link or out of memory
greeting_ends : (gave rest : List ℕ) (greeting : Response) (preauth : Bool) (e : LinkEnd) → begins_with (greeting ∷ []) rest gave → greeting_says greeting ≡ Ok preauth
    → GreetsBy gave nothing_given (Err e) → (e ≡ end.Lost) ⊎ (e ≡ end.Memory)
greeting_ends gave rest greeting preauth end.Lost greets says so = inl refl
greeting_ends gave rest greeting preauth (end.Bad at) (text, more, spells, is, none) says (place, so, here) = absurd (bad_none gave place so greeting text more spells is)
greeting_ends gave rest greeting preauth end.Stray greets says never = absurd never
greeting_ends gave rest greeting preauth end.Bye greets says (other, left, bye, greets') =
    let same = first_same greeting other rest left gave greets greets' in
    let both : Ok preauth ≡ Err end.Bye = sym says ∙ ap greeting_says same.0 ∙ bye in
    absurd (ok_not_err preauth end.Bye both)
greeting_ends gave rest greeting preauth end.TooMuch (text, more, spells, is, none) says (so, over) = absurd (need_more_none gave so greeting text more spells is)
greeting_ends gave rest greeting preauth end.Refused greets says never = absurd never
greeting_ends gave rest greeting preauth end.NoQresync greets says never = absurd never
greeting_ends gave rest greeting preauth end.Lacks greets says never = absurd never
greeting_ends gave rest greeting preauth end.Memory greets says so = inr refl

-- nothing is selected before the first command
none_selected : (life : LinkLife) → IsNew life → selected life ≡ None
none_selected life new = (λ i. if new.alive i then fold selected_after None (new.unasked i) else None)

-- what stands after the greeting obeys in the life that begins with it
obeyed_behind : (user password : List ℕ) (life : LinkLife) (preauth : Bool) (talk last events : List Event) → events ≡ talk ++ last → Talk life.gave [] talk → IsNew life
    → greeting_says life.greeting ≡ Ok preauth → Welcomes user password (given_by events) → ObeysIn (connect_plan preauth user password) life last
obeyed_behind user password life preauth talk last events is said new says w =
    let gave_is : given_by events ≡ life.gave ++ given_by last =
    ap given_by is ∙ flat_map-append store_gave_in talk last ∙ ap (λ (l : List ℕ). l ++ given_by last) said.gave_is in
    let there : begins_with (w.greeting ∷ []) w.rest (life.gave ++ given_by last) = subst (λ (l : List ℕ). begins_with (w.greeting ∷ []) w.rest l) gave_is w.greets in
    let same = first_same w.greeting life.greeting w.rest (life.rest ++ given_by last) (life.gave ++ given_by last) there
    (Begins-more (life.greeting ∷ []) life.rest life.gave (given_by last) new.greeted) in
    let kind : w.preauth ≡ preauth = ok_same (greeting_says life.greeting) w.preauth preauth (sym (ap greeting_says same.0) ∙ w.says) says in
    let number : 1 ≡ next_number life = ap (λ (xs : List Exchange). length xs + 1) (sym new.unasked) in
    subst (λ (l : List ℕ). Obeys (connect_plan preauth user password) [] (next_number life) (selected life) l) same.1
    (subst (λ (f : Option (List ℕ)). Obeys (connect_plan preauth user password) [] (next_number life) f w.rest) (sym (none_selected life new))
    (subst (λ (n : ℕ). Obeys (connect_plan preauth user password) [] n None w.rest) number
    (subst (λ (p : Bool). Obeys (connect_plan p user password) [] 1 None w.rest) kind w.obeys)))

lives_end : {user password : List ℕ} {left : Option LinkLife} {client : ClientState} {result : Result (Unit {0}) LinkEnd} {events : List Event} → Law
    → Lives user password left client result events → Welcomes user password (given_by events) → EndsWell result
lives_end {events = events} law (Unwelcome e u ends none) w =
    let gave_is : given_by events ≡ u.gave = ap given_by u.whole ∙ before_end u.talk ∙ u.first.said.gave_is in
    ended_by e ends (greeting_ends u.gave w.rest w.greeting w.preauth e (subst (λ (l : List ℕ). begins_with (w.greeting ∷ []) w.rest l) gave_is w.greets) w.says u.greets)
lives_end {user} {password} {client = client} {result = result} {events = events} law (Welcome life after u left_is) w =
    law _ life after u.exchanges client result u.last u.follows (obeyed_behind user password life u.preauth u.talk u.last events u.whole u.first.said u.new u.says w)

connects_end : {user password : List ℕ} {left : Option LinkLife} {client : ClientState} {result : Result (Unit {0}) LinkEnd} {events : List Event} → Law
    → Connects user password left client result events → Welcomes user password (given_by events) → EndsWell result
connects_end law (Unready none out a) w = inr (inr out)
connects_end law (Undialed is lost a) w = inr (inl lost)
connects_end {user} {password} law (Lived life is lives) w = lives_end law lives (subst (λ (l : List Event). Welcomes user password (given_by l)) is w)

-- ---- settling

pub settles_from : {before after : Progress} {events : List Event} → Settles before events after → before.standing ≡ Stands
settles_from (Same k is a b c d) = is
settles_from (Moves new next a b c d) = new.stands
settles_from (Spends new a b c) = new.stands
settles_from (Lacks is a b) = is

settled_ends : {before after : Progress} {events : List Event} → Settles before events after → ((k : KnownMail) → before.machine.known ≡ Some k → IsSpent k → ⊥)
    → IsServed after ⊎ (after.standing ≡ OutOfMemory)
settled_ends (Same k is known a b c) room = inl (k, ap (λ (p : Progress). p.standing) c ∙ is, ap (λ (p : Progress). p.machine.known) c ∙ known)
settled_ends (Moves new next a b c d) room = inl (served_anew new.known next, ap (λ (p : Progress). p.standing) d ∙ new.stands, ap (λ (p : Progress). p.machine.known) d)
settled_ends (Spends new spent a b) room = absurd (room new.known new.ready spent)
settled_ends (Lacks is a b) room = inr (ap (λ (p : Progress). p.standing) b)

-- where the round doesn't stand, nothing more is done
settles_nothing : {before after : Progress} {events : List Event} (a : AsksThen before events after) → a.told.standing ≢ Stands → after ≡ a.told
settles_nothing a other = elim a.settles [ inl skips ↦ skips.2 | inr settles ↦ absurd (other (settles_from settles)) ]

asks_nothing : {before after : Progress} {events : List Event} (a : AsksThen before events after) → before.standing ≢ Stands → after ≡ before
asks_nothing {before} a other =
    let told : a.told ≡ before = elim a.asks [ inl skips ↦ skips.2 | inr asks ↦ absurd (other asks.stands) ] in
    settles_nothing a (λ is. other (subst (λ (p : Progress). p.standing ≡ Stands) told is)) ∙ told

-- ---- the round

blamed_once : (b : Faults) (after told : Progress) → told.blamed ≡ blame_link 1 b → after ≡ told → after.blamed ≡ no_faults → ⊥
blamed_once b after told lost is none = omega (arith, ap (λ (f : Faults). f.link) (sym lost ∙ ap (λ (p : Progress). p.blamed) (sym is) ∙ none))

by_round : {before after : Progress} {events : List Event} (a : AsksThen before events after) (asks : RunsRound before a.asking a.told) → EndsWell asks.result
    → ((k : KnownMail) → a.told.machine.known ≡ Some k → IsSpent k → ⊥) → after.blamed ≡ no_faults
    → IsServed after ⊎ (after.standing ≡ OutOfMemory)
by_round {before} {after} a asks (inl ok) room none =
    let stands : a.told.standing ≡ Stands = ap (λ (p : Progress). p.standing) asks.after_is ∙ ap standing_by ok in
    elim a.settles [ inl skips ↦ absurd (skips.0 stands) | inr settles ↦ settled_ends settles room ]
by_round {before} {after} a asks (inr (inl lost)) room none =
    let fell : a.told.standing ≡ Unserved (Linked end.Lost) = ap (λ (p : Progress). p.standing) asks.after_is ∙ ap standing_by lost in
    let blames : a.told.blamed ≡ blame_link 1 before.blamed = ap (λ (p : Progress). p.blamed) asks.after_is ∙ ap
    (λ (r : Result (Unit {0}) LinkEnd). blame_link (lost_by r) before.blamed) lost in
    absurd (blamed_once before.blamed after a.told blames (settles_nothing a (λ is. cc)) none)
by_round {before} {after} a asks (inr (inr memory)) room none =
    let out : a.told.standing ≡ OutOfMemory = ap (λ (p : Progress). p.standing) asks.after_is ∙ ap standing_by memory in
    inr (ap (λ (p : Progress). p.standing) (settles_nothing a (λ is. cc)) ∙ out)

rounds_end : {before after : Progress} {events : List Event} → Law → (a : AsksThen before events after) → ((asks : RunsRound before a.asking a.told) → IsRoundObeyed asks)
    → ((k : KnownMail) → a.told.machine.known ≡ Some k → IsSpent k → ⊥) → before.standing ≡ Stands → after.blamed ≡ no_faults
    → IsServed after ⊎ (after.standing ≡ OutOfMemory)
rounds_end law a obeyed room stands none =
    elim a.asks [
      | inl skips ↦ absurd (skips.0 stands)
      | inr asks ↦ by_round a asks (law _ asks.life asks.left asks.rounds.exchanges asks.client asks.result a.asking asks.rounds.follows (obeyed asks)) room none
    ]

-- ---- the whole way

by_dial : {user password : List ℕ} {before : MachineState} {events : List Event} {after : Progress} → Law → (b : PreparesMail user password before events after)
    → IsObeyedBeginning b → (dials : Dials user password b.ready b.connecting b.connected) → EndsWell dials.result → after.blamed ≡ no_faults
    → IsServed after ⊎ (after.standing ≡ OutOfMemory)
by_dial law b obeyed dials (inl ok) none = rounds_end law b.asks obeyed.round obeyed.room (ap (λ (p : Progress). p.standing) dials.after_is ∙ ap standing_by ok) none
by_dial {after = after} law b obeyed dials (inr (inl lost)) none =
    let fell : b.connected.standing ≡ Unserved (Linked end.Lost) = ap (λ (p : Progress). p.standing) dials.after_is ∙ ap standing_by lost in
    let blames : b.connected.blamed ≡ blame_link 1 b.ready.blamed = ap (λ (p : Progress). p.blamed) dials.after_is ∙ ap
    (λ (r : Result (Unit {0}) LinkEnd). blame_link (lost_by r) b.ready.blamed) lost in
    absurd (blamed_once b.ready.blamed after b.connected blames (asks_nothing b.asks (λ is. cc)) none)
by_dial law b obeyed dials (inr (inr memory)) none =
    let out : b.connected.standing ≡ OutOfMemory = ap (λ (p : Progress). p.standing) dials.after_is ∙ ap standing_by memory in
    inr (ap (λ (p : Progress). p.standing) (asks_nothing b.asks (λ is. cc)) ∙ out)

-- a machine that couldn't be made ready lacks memory
lacks_room : {before : MachineState} {events : List Event} {ready : Progress} → Readies before events ready → ready.standing ≢ Stands → ready.standing ≡ OutOfMemory
lacks_room (Ready k known none is) other = absurd (other (ap (λ (p : Progress). p.standing) is))
lacks_room (Restart epoch none drawn is) other = absurd (other (ap (λ (p : Progress). p.standing) is))
lacks_room (LacksRoom epoch none drawn is) other = ap (λ (p : Progress). p.standing) is

-- where no link life begins, nothing more is done
by_none : {user password : List ℕ} {before : MachineState} {events : List Event} {after : Progress} (b : PreparesMail user password before events after)
    → b.ready.standing ≢ Stands → b.connected ≡ b.ready → after.standing ≡ OutOfMemory
by_none b other same =
    let there = ap (λ (p : Progress). p.standing) same in
    ap (λ (p : Progress). p.standing) (asks_nothing b.asks (λ is. other (sym there ∙ is))) ∙ there ∙ lacks_room b.readies other

-- where the store obeyed, a place was left and no fault is blamed, mail is served or memory ran out
pub obeyed_stands : Law → (user password : List ℕ) (before : MachineState) (events : List Event) (after : Progress) (begins : PreparesMail user password before events after)
    → IsObeyedBeginning begins
    → after.blamed ≡ no_faults
    → IsServed after ⊎ (after.standing ≡ OutOfMemory)
obeyed_stands law user password before events after b obeyed none = elim b.dials [
  | inl skips ↦ inr (by_none b skips.0 skips.2)
  | inr dials ↦ by_dial law b obeyed dials (connects_end law dials.connects (obeyed.welcomes dials)) none
]
