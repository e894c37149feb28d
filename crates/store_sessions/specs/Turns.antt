-- What a store does with the octets that a client gave (RFC 9051 sections 2.2, 3.4 and 7.6).
use Rattle.std.specs.Prelude.{◌≡◌, ℕ, List, [], codes}
use Rattle.imap_types.specs.declared.command.Command.{Command}
use Rattle.honest_store.specs.Sessions.{StoreSession, StoreAnswer}
use Rattle.small_answers.specs.Answers.{AnswersCommand}
use Rattle.small_responses.specs.AnswerTexts.{text_of_answer}
use Rattle.store_commands.specs.Answers.{IsReadAs, BeginsWithCommand}
use Rattle.store_commands.specs.declared.command_read.CommandRead.TheVariants.{Whole, NeedMore, WantsLiteral, Bad}
use Rattle.store_sessions.specs.declared.turn.Turn.{Turn}
use Rattle.store_sessions.specs.declared.turn.Turn.TheVariants.{Answer, GoAhead, Wait, End}

-- asks for a literal's octets
abbrev pub go_ahead : List ℕ
go_ahead = codes "+ go\r\n"

-- why the connection ends
abbrev pub no_command : List ℕ
no_command = codes "* BYE no such command\r\n"

abbrev pub octets_told : Turn → List ℕ
octets_told (Answer length octets) = octets.items
octets_told GoAhead = go_ahead
octets_told Wait = []
octets_told End = no_command

abbrev pub octets_read : Turn → ℕ
octets_read (Answer length octets) = length
octets_read GoAhead = 0
octets_read Wait = 0
octets_read End = 0

-- so many octets are read, and these told
abbrev pub IsAnswer : Turn → ℕ → List ℕ → Type 0
IsAnswer (Answer length octets) count text = (length ≡ count) × (octets.items ≡ text)
IsAnswer _ count text = ⊥

-- The command at the front of what stands unread is answered; or the octets of a literal are asked for, or more octets are waited for;
-- or no command begins so.
pub data Turns (s : StoreSession) (unread : List ℕ) : StoreSession → Turn → Type 0 where
  Answered : {tag : List ℕ} {command : Command} {count : ℕ} {a : StoreAnswer} {after : StoreSession} {turn : Turn}
      → IsReadAs unread (Whole count tag command) → AnswersCommand s command a after → IsAnswer turn count (text_of_answer tag a)
      → Turns s unread after turn
  Asks : IsReadAs unread WantsLiteral → Turns s unread s GoAhead
  Waits : IsReadAs unread NeedMore → Turns s unread s Wait
  Ends : {at : ℕ} → IsReadAs unread (Bad at) → Turns s unread s End

-- Memory is wanting for the command at the front: it did nothing, or all that it does.
pub data Lacks (s : StoreSession) (unread : List ℕ) : StoreSession → Type 0 where
  Undone : BeginsWithCommand unread → Lacks s unread s
  Unanswered : {tag : List ℕ} {command : Command} {count : ℕ} {a : StoreAnswer} {after : StoreSession}
      → IsReadAs unread (Whole count tag command) → AnswersCommand s command a after → Lacks s unread after
