-- How the calls of a request come by the bodies of Emails (RFC 8621 section 4.2): one is kept, or the store is asked in the request's link
-- life.
use Rattle.std.specs.Prelude.{◌≡◌, ◌≢◌, ◌++◌, ℕ, true, false, List, [], ◌∷◌, Option, Some, None, Result, Ok, Err}
use Rattle.gate_world.specs.declared.event.Event.{Event}
use Rattle.told_mail.specs.Told.{Told}
use Rattle.email_bodies.specs.Asking.{BodyAsk, unanswered}
use Rattle.email_bodies.specs.Keeping.{Bodies, body_at, after_use, with_body}
use Rattle.email_bodies.specs.declared.source.MessagePlace.{MessagePlace}
use Rattle.imap_exchange.specs.declared.link_end.LinkEnd.{LinkEnd}
use Rattle.imap_exchange.specs.declared.link_end.LinkEnd.TheVariants as end
use Rattle.imap_client.specs.Bodies.{FetchesBody, without_body}
use Rattle.imap_client.specs.LinkLife.{LinkLife, ClientState}
use Rattle.imap_client.specs.Rounds.{KeepsCount}
use Rattle.gate_machine.specs.History.{KnownMail}
use Rattle.gate_machine.specs.Machine.{hearing, committed}
use Rattle.gate_machine.specs.Progress.{Progress, blame_link, is_up, lost_by, out_of_memory}

-- ---- what is known

-- the body of the message is kept
pub record HasKept (message : MessagePlace) (before : Progress) (body : Option (List ℕ)) : Type 0 where
  pub known : KnownMail
  pub ready : before.machine.known ≡ Some known
  pub is_kept : body_at known.bodies message.email ≡ body

-- these bodies are kept from now on
abbrev pub keeping : Progress → KnownMail → Bodies → Progress
keeping p k bodies = record p { machine = committed p.machine (record k { bodies = bodies }) }

-- ---- the store is asked

-- for a body that isn't kept, in the link life that there is, which goes on
pub record AsksStore (message : MessagePlace) (before : Progress) (result : Result (List ℕ) LinkEnd) (events : List Event) : Type 0 where
  pub kept : HasKept message before None
  pub told : Told
  pub life : LinkLife
  pub left : LinkLife
  pub client : ClientState
  pub in_life : before.left ≡ Some life
  pub goes_on : life.goes_on ≡ true
  pub fetches : FetchesBody message.folder message.uid kept.known.told.mail told.mail life left client result events
  pub counted : KeepsCount kept.known.told told result fetches.exchanges

-- what completed exchanges told is told; a link that was lost is blamed
abbrev pub after_asking : {message : MessagePlace} {before : Progress} {result : Result (List ℕ) LinkEnd} {events : List Event}
    → AsksStore message before result events → Progress
after_asking {before = before} {result = result} a = record before {
  machine = hearing before.machine a.kept.known a.told;
  left = Some a.left;
  blamed = blame_link (lost_by (without_body result)) before.blamed;
}

-- the body that came is kept
abbrev pub keeping_body : {message : MessagePlace} {before : Progress} {octets : List ℕ} {events : List Event}
    → AsksStore message before (Ok octets) events → Progress
keeping_body {message = message} {octets = octets} a =
    keeping (after_asking a) (record a.kept.known { told = a.told }) (with_body message.email octets a.kept.known.bodies)

-- ---- a body

-- What asking for the body of a message comes to: its octets, or none where they don't come.
pub data AsksBody (message : MessagePlace) (before : Progress) (body : Option (List ℕ)) (events : List Event) (after : Progress) : Type 0 where
  -- one that is kept, and is the one that was used last then
  IsKept : (octets : List ℕ) (kept : HasKept message before (Some octets)) → body ≡ Some octets → events ≡ []
      → after ≡ keeping before kept.known (after_use message.email kept.known.bodies) → AsksBody message before body events after
  -- the store tells it
  IsTold : (octets : List ℕ) (asks : AsksStore message before (Ok octets) events) → body ≡ Some octets → after ≡ keeping_body asks
      → AsksBody message before body events after
  -- the link life has ended with this; no other begins in the request
  Ends : (e : LinkEnd) (asks : AsksStore message before (Err e) events) → e ≢ end.Memory → body ≡ None → after ≡ after_asking asks
      → AsksBody message before body events after
  -- it had ended before
  HasEnded : HasKept message before None → is_up before.left ≡ false → body ≡ None → events ≡ [] → after ≡ before → AsksBody message before body events after

-- Memory runs out: before the store is asked, meanwhile, or when the body that came is to be kept.
pub data LacksBody (message : MessagePlace) (before : Progress) (events : List Event) (after : Progress) : Type 0 where
  Unasked : events ≡ [] → after ≡ out_of_memory before → LacksBody message before events after
  Asked : (asks : AsksStore message before (Err end.Memory) events) → after ≡ out_of_memory (after_asking asks) → LacksBody message before events after
  NotKept : (octets : List ℕ) (asks : AsksStore message before (Ok octets) events) → after ≡ out_of_memory (after_asking asks)
      → LacksBody message before events after

-- ---- bodies, one after another

pub record NextBody (before : Progress) : Type 0 where
  pub ask : BodyAsk
  pub events : List Event
  pub after : Progress
  pub asks : AsksBody ask.message before ask.body events after

-- These bodies are asked in order, and come or don't.
pub data AsksBodies (before : Progress) : List BodyAsk → List Event → Progress → Type 0 where
  NoBodies : AsksBodies before [] [] before
  MoreBodies : {asks : List BodyAsk} {events : List Event} {mid : Progress} (next : NextBody mid) → AsksBodies before asks events mid
      → AsksBodies before (asks ++ next.ask ∷ []) (events ++ next.events) next.after

-- memory runs out as the last of these is asked, which isn't answered
pub record LacksLast (before : Progress) (tried : List BodyAsk) (events : List Event) (after : Progress) : Type 0 where
  pub asks : List BodyAsk
  pub mid : Progress
  pub message : MessagePlace
  pub asking : List Event
  pub lacking : List Event
  pub tried_are : tried ≡ asks ++ unanswered message ∷ []
  pub asked : AsksBodies before asks asking mid
  pub lacks : LacksBody message mid lacking after
  pub whole : events ≡ asking ++ lacking

-- What the calls of a request ask: these bodies, all of which are answered; or memory runs out as the last of them is asked.
pub data CallsAsk (before : Progress) (asks : List BodyAsk) (events : List Event) (after : Progress) : Type 0 where
  AllAsked : AsksBodies before asks events after → CallsAsk before asks events after
  RunsShort : LacksLast before asks events after → CallsAsk before asks events after
