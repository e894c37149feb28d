-- What an exchange adds to the tape, and why one isn't completed.
use Rattle.std.specs.Prelude.{◌≡◌, ◌≢◌, ◌⊎◌, ◌<◌, ◌++◌, ◌+◌, ℕ, Bool, true, false, List, [], ◌∷◌, length, Option, Some, None, Result, Ok, Err}
use Rattle.gate_world.specs.declared.event.Event.{Event}
use Rattle.gate_world.specs.declared.event.Event.TheVariants.{LinkEnded}
use Rattle.gate_world.specs.Octets.{Talk}
use Rattle.imap_types.specs.declared.code.Code.{Code}
use Rattle.imap_types.specs.declared.response.Response.{Response}
use Rattle.imap_types.specs.declared.response.Status.{Status}
use Rattle.imap_types.specs.declared.response.Status.TheVariants as status
use Rattle.imap_types.specs.declared.command.Command.{Command}
use Rattle.imap_types.specs.declared.command.Command.TheVariants.{Select, Unselect}
use Rattle.imap_types.specs.Commands.{joined_pieces}
use Rattle.told_folder.specs.declared.exchange.Exchange.{Exchange}
use Rattle.imap_exchange.specs.declared.link_end.LinkEnd.{LinkEnd}
use Rattle.imap_exchange.specs.declared.link_end.LinkEnd.TheVariants as end
use Rattle.imap_exchange.specs.declared.link_end.TheConstants.{MAX_EXCHANGE_OCTETS, MAX_LIFE_OCTETS}
use Rattle.imap_exchange.specs.declared.exchange.Answer.{Answer}
use Rattle.imap_exchange.specs.Received.{Octets}
use Rattle.imap_exchange.specs.Needed.{ReadsWhile, NeedsMore}
use Rattle.imap_exchange.specs.Exchanges.{Passes, Done, Stray, Bye, BadAt, Open, IsVerdict, IsTaken, IsPaced, pieces_due}

-- ---- the link's end

-- the end of a life, where the link isn't up
abbrev pub end_unless : Bool → List Event
end_unless true = []
end_unless false = LinkEnded ∷ []

-- the life is ended, where the link was up
abbrev pub HangsUp : Bool → List Event → Type 0
HangsUp true events = events ≡ LinkEnded ∷ []
HangsUp false events = events ≡ []

-- ---- an exchange

-- the store gave more than an exchange or a life may have
abbrev pub IsTooMuch : Octets → List ℕ → Type 0
IsTooMuch before gave = (MAX_EXCHANGE_OCTETS < length (before.octets ++ gave)) ⊎ (MAX_LIFE_OCTETS < before.given + length gave)

-- all that is due by these responses was taken
abbrev pub AllDueTaken : List (List ℕ) → List Response → List ℕ → Type 0
AllDueTaken pieces responses took = took ≡ joined_pieces (pieces_due pieces responses)

-- Further octets are awaited: those that came decide nothing, all that is due by them was taken, and they aren't too much.
pub record Awaits (pieces : List (List ℕ)) (before : Octets) (gave took : List ℕ) : Type 0 where
  pub responses : List Response
  pub remaining : List ℕ
  pub passed : Passes responses remaining (before.octets ++ gave)
  pub more : NeedsMore remaining
  pub sent : AllDueTaken pieces responses took
  pub room : IsTooMuch before gave → ⊥

-- The store gave and took octets, each piece after its continuation; octets were read only while further ones were awaited; the link
-- ended after them, where it isn't up.
pub record Speaks (pieces : List (List ℕ)) (before : Octets) (up : Bool) (events : List Event) : Type 0 where
  pub talk : List Event
  pub gave : List ℕ
  pub took : List ℕ
  pub ended : events ≡ talk ++ end_unless up
  pub said : Talk gave took talk
  pub paced : IsPaced pieces before.octets talk
  pub needed : ReadsWhile (Awaits pieces before) talk

-- Why an exchange isn't completed, by the octets held and given and those taken. Nothing is said of out of memory.
abbrev pub IsCause : List ℕ → List (List ℕ) → Octets → List ℕ → List ℕ → LinkEnd → Type 0
-- No tagged line came, where not too much stands there or the store didn't take all that was due; or an OK to a command that
-- wasn't taken whole.
IsCause tag pieces before gave took end.Lost =
    ((still : IsVerdict tag pieces (before.octets ++ gave) Open) × (IsTooMuch before gave → AllDueTaken pieces still.responses took → ⊥))
    ⊎ ((responses : List Response) × (code : Code) × (rest : List ℕ) × IsVerdict tag pieces (before.octets ++ gave) (Done responses status.Ok code rest)
    × (took ≢ joined_pieces pieces))
IsCause tag pieces before gave took (end.Bad at) = (place : ℕ) × IsVerdict tag pieces (before.octets ++ gave) (BadAt place)
    × (at + length before.octets ≡ before.given + place)
IsCause tag pieces before gave took end.Stray = IsVerdict tag pieces (before.octets ++ gave) Stray
IsCause tag pieces before gave took end.Bye = IsVerdict tag pieces (before.octets ++ gave) Bye
-- too much, of which nothing decides, where the store took all that was due
IsCause tag pieces before gave took end.TooMuch =
    (still : IsVerdict tag pieces (before.octets ++ gave) Open) × IsTooMuch before gave × AllDueTaken pieces still.responses took
IsCause tag pieces before gave took end.Memory = Unit {0}
IsCause tag pieces before gave took _ = ⊥

-- The folder that is selected once this is answered: a SELECT that is answered OK selects its folder, another one and an
-- UNSELECT leave none (RFC 9051 sections 6.3.2 and 6.4.2).
abbrev pub selected_by : Command → Status → Option (List ℕ) → Option (List ℕ)
selected_by (Select name _) status.Ok before = Some name
selected_by (Select _ _) _ before = None
selected_by Unselect _ before = None
selected_by _ _ before = before

-- what an exchange over octets that aren't read comes to, once it is sent by these pieces
abbrev pub ComesTo : List ℕ → List (List ℕ) → Octets → List ℕ → List ℕ → Octets → Bool → Result Answer LinkEnd → Type 0
ComesTo tag pieces before gave took after up (Ok a) =
    IsVerdict tag pieces (before.octets ++ gave) (Done a.responses a.status a.code after.octets)
    × IsTaken pieces a.responses a.status took
    × (after.given ≡ before.given + length gave)
    × (up ≡ false → a.status ≢ status.Ok)
    × (up ≡ true → AllDueTaken pieces a.responses took)
ComesTo tag pieces before gave took after up (Err e) = IsCause tag pieces before gave took e

-- the answer of an exchange
abbrev pub answer_of : Result (Exchange × Option (List ℕ)) LinkEnd → Result Answer LinkEnd
answer_of (Ok p) = Ok (record { responses = p.0.responses; status = p.0.status; code = p.0.code })
answer_of (Err e) = Err e

-- the exchange is of this command, while that folder was selected, and after it this one is
pub record IsOf (command : Command) (before : Option (List ℕ)) (x : Exchange) (now : Option (List ℕ)) : Type 0 where
  pub command_is : x.command ≡ command
  pub selected_is : x.selected ≡ before
  pub now_is : now ≡ selected_by command x.status before

-- Where no response begins at an offset of the life, the octets from there on are held: those before it are read.
abbrev pub HoldsUnread : Octets → List ℕ → Octets → Result Answer LinkEnd → Type 0
HoldsUnread before gave after (Err (end.Bad at)) =
    (read : List ℕ) × (before.octets ++ gave ≡ read ++ after.octets) × (at + length before.octets ≡ before.given + length read)
HoldsUnread before gave after _ = Unit {0}

-- whether these octets, which the store took, are some
abbrev pub is_some_taken : List ℕ → Bool
is_some_taken [] = false
is_some_taken (octet ∷ octets) = true

-- what an exchange adds, and whether the store took octets of its command
pub record Converses (tag : List ℕ) (pieces : List (List ℕ)) (before after : Octets) (up taken : Bool) (result : Result Answer LinkEnd)
    (events : List Event) : Type 0 where
  pub speaks : Speaks pieces before up events
  pub taken_is : taken ≡ is_some_taken speaks.took
  pub comes : ComesTo tag pieces before speaks.gave speaks.took after up result
  pub held : HoldsUnread before speaks.gave after result
