-- Octets by which the store obeys all that a request asks of it.
use Rattle.std.specs.Prelude.{◌≡◌, ◌++◌, ℕ, Bool, List, [], ◌∷◌, Option, Some, None, Result, Ok, All, IsSome}
use Rattle.std.specs.List.{flat_map}
use Rattle.gate_world.specs.Octets.{store_gave_in}
use Rattle.gate_world.specs.declared.event.Event.{Event}
use Rattle.imap_types.specs.declared.response.Response.{Response}
use Rattle.email_bodies.specs.Asking.{BodyAsk}
use Rattle.email_bodies.specs.declared.source.MessagePlace.{MessagePlace}
use Rattle.imap_exchange.specs.Begins.{Begins as begins_with}
use Rattle.imap_exchange.specs.declared.link_end.LinkEnd.{LinkEnd}
use Rattle.imap_client.specs.Bodies.{body_from, body_start}
use Rattle.imap_client.specs.Connecting.{greeting_says, connect_plan}
use Rattle.imap_client.specs.LinkLife.{LinkLife, next_number, selected, special_use}
use Rattle.imap_client.specs.Obeying.{Obeys}
use Rattle.imap_client.specs.Plans.{Planned}
use Rattle.imap_client.specs.Rounds.{round_plan}
use Rattle.gate_machine.specs.Beginning.{Dials, RunsRound, PreparesMail}
use Rattle.gate_machine.specs.Fetching.{AsksStore, AsksBody, IsKept, IsTold, Ends, HasEnded, AsksBodies, NoBodies, MoreBodies, CallsAsk, AllAsked, RunsShort}
use Rattle.gate_machine.specs.History.{KnownMail, IsSpent}
use Rattle.gate_machine.specs.Progress.{Progress}
use Rattle.gate_machine.specs.Machine.{MachineState}
use Rattle.gate_machine.specs.declared.mail_status.MailStatus.TheVariants.{Stands}

-- what these events give of the store's octets
abbrev pub given_by : List Event → List ℕ
given_by events = flat_map store_gave_in events

-- The octets of a new life greet with OK or PREAUTH, and obey what connecting asks then.
pub record Welcomes (user password octets : List ℕ) : Type 0 where
  pub greeting : Response
  pub preauth : Bool
  pub rest : List ℕ
  pub greets : begins_with (greeting ∷ []) rest octets
  pub says : greeting_says greeting ≡ Ok preauth
  pub obeys : Obeys (connect_plan preauth user password) [] 1 None rest

-- what the store gave in the life from here on obeys the plan
abbrev pub ObeysIn : Planned → LinkLife → List Event → Type 0
ObeysIn plan life events = Obeys plan [] (next_number life) (selected life) (life.rest ++ given_by events)

-- the store obeyed what the round asks
abbrev pub IsRoundObeyed : {before : Progress} {events : List Event} {after : Progress} → RunsRound before events after → Type 0
IsRoundObeyed {events = events} asks = ObeysIn (round_plan (special_use asks.life) asks.known.told.mail) asks.life events

-- The store obeyed, and a place was left for what it told.
pub record IsObeyedBeginning {user password : List ℕ} {before : MachineState} {events : List Event} {after : Progress}
    (begins : PreparesMail user password before events after) : Type 0 where
  pub welcomes : Dials user password begins.ready begins.connecting begins.connected → Welcomes user password (given_by begins.connecting)
  pub round : (asks : RunsRound begins.connected begins.asks.asking begins.asks.told) → IsRoundObeyed asks
  pub room : (k : KnownMail) → begins.asks.told.machine.known ≡ Some k → IsSpent k → ⊥

-- the round stands, and mail is served
abbrev pub IsServed : Progress → Type 0
IsServed p = (k : KnownMail) × (p.standing ≡ Stands) × (p.machine.known ≡ Some k)

-- ---- bodies

-- the store obeyed the fetch of a body, and told it
abbrev pub IsFetchObeyed : {message : MessagePlace} {before : Progress} {result : Result (List ℕ) LinkEnd} {events : List Event}
    → AsksStore message before result events → Type 0
IsFetchObeyed {message = message} {events = events} a =
    ObeysIn (body_from message.folder message.uid (body_start (selected a.life) a.kept.known.told.mail message.folder)) a.life events

-- it did where it was asked
abbrev pub IsAskObeyed : {message : MessagePlace} {before : Progress} {body : Option (List ℕ)} {events : List Event} {after : Progress}
    → AsksBody message before body events after → Type 0
IsAskObeyed (IsKept a b c d e) = Unit {0}
IsAskObeyed (IsTold octets asks a b) = IsFetchObeyed asks
IsAskObeyed (Ends e asks a b c) = IsFetchObeyed asks
IsAskObeyed (HasEnded a b c d e) = Unit {0}

-- and each time that it was
abbrev pub AreAsksObeyed : {before : Progress} {asks : List BodyAsk} {events : List Event} {after : Progress} → AsksBodies before asks events after → Type 0
AreAsksObeyed NoBodies = Unit {0}
AreAsksObeyed (MoreBodies next bodies) = AreAsksObeyed bodies × IsAskObeyed next.asks

-- so it did for the calls of a request, unless memory ran out
abbrev pub AreCallsObeyed : {before : Progress} {asks : List BodyAsk} {events : List Event} {after : Progress} → CallsAsk before asks events after → Type 0
AreCallsObeyed (AllAsked bodies) = AreAsksObeyed bodies
AreCallsObeyed (RunsShort short) = Unit {0}

-- each body that was asked came
abbrev pub HasCome : BodyAsk → Type 0
HasCome ask = IsSome ask.body

abbrev pub AllCame : List BodyAsk → Type 0
AllCame asks = All HasCome asks
