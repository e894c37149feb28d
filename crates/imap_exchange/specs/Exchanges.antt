-- A command, and the responses up to its tagged line (RFC 9051 section 2.2). Responses go with commands by their order
-- alone, whenever their octets came. A command is given here by its tag and the pieces of its text.
use Rattle.std.specs.Prelude.{◌≡◌, ◌≢◌, ◌⊎◌, ◌++◌, ◌+◌, ◌<◌, ◌≤◌, ℕ, Bool, true, false, List, [], ◌∷◌, All, length, take, count_by}
use Rattle.std.specs.List.{flat_map}
use Rattle.gate_world.specs.declared.event.Event.{Event}
use Rattle.gate_world.specs.Octets.{store_gave_in, store_took_in}
use Rattle.imap_types.specs.declared.command.Command.{Command}
use Rattle.imap_types.specs.declared.code.Code.{Code}
use Rattle.imap_types.specs.declared.response.Response.{Response}
use Rattle.imap_types.specs.declared.response.Response.TheVariants.{Tagged, Untagged, Continue}
use Rattle.imap_types.specs.declared.response.Status.{Status}
use Rattle.imap_types.specs.declared.response.Status.TheVariants as status
use Rattle.imap_types.specs.Commands.{command_pieces, joined_pieces, tag_of}
use Rattle.imap_grammar.specs.Scan.{ScanOf}
use Rattle.imap_grammar.specs.declared.answer.Scan.TheVariants as scan
use Rattle.imap_exchange.specs.Begins.{Begins}

-- ---- what comes

-- a response that leaves the exchange open: one without a tag, but BYE, which ends the life (sections 7 and 7.1.5)
abbrev pub IsOpen : Response → Type 0
IsOpen (Tagged _ _ _) = ⊥
IsOpen (Untagged status.Bye _) = ⊥
IsOpen _ = Unit {0}

-- the octets begin with these open responses, and the rest stands after them
pub record Passes (responses : List Response) (remaining octets : List ℕ) : Type 0 where
  pub all_open : All IsOpen responses
  pub spelled : Begins responses remaining octets

-- ---- what is sent

abbrev pub is_continue : Response → Bool
is_continue Continue = true
is_continue _ = false

-- how many continuations came (section 7.6)
abbrev pub continuations : List Response → ℕ
continuations responses = count_by is_continue responses

-- The pieces that may be sent once these responses came: the first, and one more for each continuation (section 4.3).
abbrev pub pieces_due : List (List ℕ) → List Response → List (List ℕ)
pieces_due pieces responses = take (continuations responses + 1) pieces

-- all of the pieces may be sent
abbrev pub AreAllDue : List (List ℕ) → List Response → Type 0
AreAllDue pieces responses = length pieces ≤ continuations responses + 1

-- no more was taken than the pieces that these octets let go
pub record IsDuePart (pieces : List (List ℕ)) (octets took : List ℕ) : Type 0 where
  pub responses : List Response
  pub remaining : List ℕ
  pub passed : Passes responses remaining octets
  pub left : List ℕ
  pub within : took ++ left ≡ joined_pieces (pieces_due pieces responses)

-- At each moment of these events no more was taken than the pieces that the octets let go that were held as they began
-- and that had come by then: each piece but the first is sent after its continuation.
pub record IsPaced (pieces : List (List ℕ)) (held : List ℕ) (events : List Event) : Type 0 where
  pub at_each : (so_far later : List Event) → events ≡ so_far ++ later → IsDuePart pieces (held ++ flat_map store_gave_in so_far)
      (flat_map store_took_in so_far)

-- ---- what becomes of it

-- What octets say of the exchange that is due. The first in them that is no open response decides.
pub data Verdict : Type 0 where
  -- the tagged line came: the responses before it, what it says, and what stands after it
  Done : List Response → Status → Code → List ℕ → Verdict
  -- another tagged line, or an OK that comes before the command's last continuation
  Stray : Verdict
  Bye : Verdict
  -- no response begins at this place of the octets
  BadAt : ℕ → Verdict
  -- nothing yet
  Open : Verdict

-- a tagged line of this status ends the exchange: OK once all pieces are due, NO and BAD at any time (section 7.1)
abbrev pub EndsExchange : List (List ℕ) → List Response → Status → Type 0
EndsExchange pieces responses status.Ok = AreAllDue pieces responses
EndsExchange pieces responses _ = Unit {0}

-- what stands after the open responses at the front of the octets decides
abbrev pub Decides : List ℕ → List (List ℕ) → List ℕ → List Response → List ℕ → Verdict → Type 0
Decides tag pieces octets responses remaining (Done before s code rest) = (before ≡ responses) × Begins (Tagged tag s code ∷ []) rest remaining
    × EndsExchange pieces responses s
Decides tag pieces octets responses remaining Stray =
    (other : List ℕ) × (s : Status) × (code : Code) × (rest : List ℕ) × Begins (Tagged other s code ∷ []) rest remaining
    × ((other ≢ tag) ⊎ ((s ≡ status.Ok) × (continuations responses + 1 < length pieces)))
Decides tag pieces octets responses remaining Bye = (code : Code) × (rest : List ℕ) × Begins (Untagged status.Bye code ∷ []) rest remaining
Decides tag pieces octets responses remaining (BadAt at) = (place : ℕ) × ScanOf remaining (scan.Bad place) × (at + length remaining ≡ length octets)
Decides tag pieces octets responses remaining Open = ScanOf remaining scan.NeedMore

-- The verdict of the octets on the exchange of this tag and these pieces.
pub record IsVerdict (tag : List ℕ) (pieces : List (List ℕ)) (octets : List ℕ) (verdict : Verdict) : Type 0 where
  pub responses : List Response
  pub remaining : List ℕ
  pub passed : Passes responses remaining octets
  pub decided : Decides tag pieces octets responses remaining verdict

-- The same of a command and its number.
abbrev pub VerdictOf : ℕ → Command → List ℕ → Verdict → Type 0
VerdictOf n command octets verdict = IsVerdict (tag_of n) (command_pieces command n) octets verdict

-- what the store took of a command that was answered so: all of it where that was OK, else no more than was due
abbrev pub IsTaken : List (List ℕ) → List Response → Status → List ℕ → Type 0
IsTaken pieces responses status.Ok took = took ≡ joined_pieces pieces
IsTaken pieces responses _ took = (left : List ℕ) × (took ++ left ≡ joined_pieces (pieces_due pieces responses))
