-- What is asked of a store in order, by what it answered so far.
use Rattle.std.specs.Prelude.{◌≡◌, ◌≢◌, ◌++◌, Bool, false, List, [], ◌∷◌, Result, Ok, Err}
use Rattle.gate_world.specs.declared.event.Event.{Event}
use Rattle.imap_types.specs.declared.command.Command.{Command}
use Rattle.imap_types.specs.declared.response.Status.TheVariants as status
use Rattle.told_folder.specs.declared.exchange.Exchange.{Exchange}
use Rattle.imap_exchange.specs.declared.link_end.LinkEnd.{LinkEnd}
use Rattle.imap_exchange.specs.declared.link_end.LinkEnd.TheVariants as end
use Rattle.imap_exchange.specs.Answering.{HangsUp, is_some_taken}
use Rattle.imap_client.specs.declared.plan.Due.{Due}
use Rattle.imap_client.specs.declared.plan.Due.TheVariants as due
use Rattle.imap_client.specs.declared.plan.Refusal.{Refusal}
use Rattle.imap_client.specs.Refusals.{refusal_end}
use Rattle.imap_client.specs.LinkLife.{LinkLife, ClientState, Stands, hung_up}
use Rattle.imap_client.specs.Calls.{CompletesExchange, Breaks}

-- A plan: what is due once these exchanges are completed.
abbrev pub Planned : Type 0
Planned = List Exchange → Due

-- A command that isn't answered OK is never the last of all that is to be done.
pub record StopsAtRefusal (plan : Planned) : Type 0 where
  pub stops : (xs : List Exchange) (command : Command) (x : Exchange) → plan xs ≡ due.Send command → x.status ≢ status.Ok → plan (xs ++ x ∷ []) ≢ due.Done

-- the exchange that is due after these, the lives before and after it, and what it adds
pub record NextExchange (plan : Planned) (heard : List Exchange) : Type 0 where
  pub before : LinkLife
  pub command : Command
  pub exchange : Exchange
  pub after : LinkLife
  pub events : List Event
  pub asked : plan heard ≡ due.Send command
  pub completes : CompletesExchange before command exchange after events

-- From one life to another by completed exchanges, each of the command that was due.
pub data Ran (plan : Planned) (life : LinkLife) : List Exchange → LinkLife → List Event → Type 0 where
  Begun : Ran plan life [] life []
  Then : {heard : List Exchange} {events : List Event} (next : NextExchange plan heard) → Ran plan life heard next.before events
      → Ran plan life (heard ++ next.exchange ∷ []) next.after (events ++ next.events)

-- The exchanges that a plan heard, from one state of its own to another.
pub data HearsAll {S : Type 0} (hears : S → Exchange → S → Type 0) (before : S) : List Exchange → S → Type 0 where
  HeardNone : HearsAll hears before [] before
  HeardMore : {xs : List Exchange} {mid after : S} (x : Exchange) → HearsAll hears before xs mid → hears mid x after → HearsAll hears before
      (xs ++ x ∷ []) after

-- How it ends in a life, where this is due, and the life that is left. After each error that life has ended.
pub data IsEnd (now : Due) (life left : LinkLife) (result : Result (Unit {0}) LinkEnd) (events : List Event) : Type 0 where
  -- all is done
  Finished : now ≡ due.Done → result ≡ Ok tt → events ≡ [] → left ≡ life → IsEnd now life left result events
  -- the plan fails by what the store answered
  Failed : (why : Refusal) → now ≡ due.Fails why → result ≡ Err (refusal_end why) → HangsUp life.goes_on events → left ≡ hung_up life
      → IsEnd now life left result events
  -- the command that is due isn't completed
  Broken : (command : Command) (e : LinkEnd) → now ≡ due.Send command → result ≡ Err e → Breaks life command e left events → IsEnd now life left result events
  -- a command is due, and the life ended with the exchange before
  LifeHadEnded : (command : Command) → now ≡ due.Send command → life.goes_on ≡ false → result ≡ Err end.Lost → events ≡ [] → left ≡ life
      → IsEnd now life left result events
  -- out of memory
  Wanting : result ≡ Err end.Memory → HangsUp life.goes_on events → left ≡ hung_up life → IsEnd now life left result events

-- Whether the command that was due isn't completed, and the store took octets of it. What a life took in part that had ended before
-- doesn't count.
abbrev pub ends_torn : {now : Due} {life left : LinkLife} {result : Result (Unit {0}) LinkEnd} {events : List Event} → IsEnd now life left result events → Bool
ends_torn {left = left} (Broken command e asked is breaks) = is_some_taken left.part
ends_torn _ = false

-- The plan was followed in this life: what was taken are the commands of these completed exchanges, and of the one that was
-- due then at most a part.
pub record Follows (plan : Planned) (life left : LinkLife) (exchanges : List Exchange) (client : ClientState) (result : Result (Unit {0}) LinkEnd)
    (events : List Event) : Type 0 where
  pub after : LinkLife
  pub so_far : List Event
  pub last : List Event
  pub ran : Ran plan life exchanges after so_far
  pub ends : IsEnd (plan exchanges) after left result last
  pub whole : events ≡ so_far ++ last
  pub stands : Stands client left

-- The same, with the plan's own state: it heard these exchanges, unless memory ran out.
pub record FollowsTo {S : Type 0} (plan : S → Planned) (hears : S → Exchange → S → Type 0) (before after : S) (life left : LinkLife) (client : ClientState)
    (result : Result (Unit {0}) LinkEnd) (events : List Event) : Type 0 where
  pub exchanges : List Exchange
  pub follows : Follows (plan before) life left exchanges client result events
  pub heard : result ≢ Err end.Memory → HearsAll hears before exchanges after
