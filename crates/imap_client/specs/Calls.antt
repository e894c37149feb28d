-- What an exchange adds to a life.
use Rattle.std.specs.Prelude.{◌≡◌, ◌≢◌, ◌++◌, Bool, true, false, List, ℕ, Result, Ok, Err}
use Rattle.gate_world.specs.declared.event.Event.{Event}
use Rattle.imap_types.specs.declared.response.Status.TheVariants as status
use Rattle.imap_types.specs.declared.command.Command.{Command}
use Rattle.imap_types.specs.Commands.{command_pieces, joined_pieces, tag_of}
use Rattle.told_folder.specs.declared.exchange.Exchange.{Exchange}
use Rattle.imap_exchange.specs.declared.link_end.LinkEnd.{LinkEnd}
use Rattle.imap_exchange.specs.Exchanges.{Done, VerdictOf, IsTaken, pieces_due}
use Rattle.imap_exchange.specs.Answering.{Speaks, IsCause, is_some_taken}
use Rattle.imap_client.specs.LinkLife.{LinkLife, ClientState, Stands, next_number, selected, unread, with_exchange, with_part}

-- The life went on, the exchange of its next number is completed, and after it the life is this one. Where the link failed meanwhile
-- the life has ended, and the answer was no OK.
pub record CompletesExchange (life : LinkLife) (command : Command) (x : Exchange) (after : LinkLife) (events : List Event) : Type 0 where
  pub on : life.goes_on ≡ true
  pub speaks : Speaks (command_pieces command (next_number life)) (unread life) after.goes_on events
  pub rest : List ℕ
  pub after_is : after ≡ with_exchange life speaks.gave speaks.took x rest after.goes_on
  pub command_is : x.command ≡ command
  pub selected_is : x.selected ≡ selected life
  pub verdict : VerdictOf (next_number life) command (life.rest ++ speaks.gave) (Done x.responses x.status x.code rest)
  pub taken : IsTaken (command_pieces command (next_number life)) x.responses x.status speaks.took
  pub refused : after.goes_on ≡ false → x.status ≢ status.Ok
  -- where the life goes on, all that was due was taken
  pub all_taken : after.goes_on ≡ true → speaks.took ≡ joined_pieces (pieces_due (command_pieces command (next_number life)) x.responses)

-- The life went on, the exchange isn't completed, and the life has ended.
pub record Breaks (life : LinkLife) (command : Command) (e : LinkEnd) (after : LinkLife) (events : List Event) : Type 0 where
  pub on : life.goes_on ≡ true
  pub speaks : Speaks (command_pieces command (next_number life)) (unread life) false events
  pub after_is : after ≡ with_part life speaks.gave speaks.took
  pub cause : IsCause (tag_of (next_number life)) (command_pieces command (next_number life)) (unread life) speaks.gave speaks.took e

abbrev pub ExchangeEnds : LinkLife → Command → LinkLife → Result Exchange LinkEnd → List Event → Type 0
ExchangeEnds life command left (Ok x) events = CompletesExchange life command x left events
ExchangeEnds life command left (Err e) events = Breaks life command e left events

-- What an exchange adds, and the life that is left. In every outcome it is said what was taken, each piece after its
-- continuation.
pub record IsExchanged (life : LinkLife) (command : Command) (left : LinkLife) (client : ClientState) (result : Result Exchange LinkEnd)
    (events : List Event) : Type 0 where
  pub ends : ExchangeEnds life command left result events
  pub stands : Stands client left

-- whether the store took octets of a command whose exchange isn't completed
abbrev pub is_torn : Result Exchange LinkEnd → LinkLife → Bool
is_torn (Ok x) left = false
is_torn (Err e) left = is_some_taken left.part
