-- What a store replies to the octets that came over its link, and what some of the commands among them do.
use Rattle.std.specs.Prelude.{◌≡◌, ◌≢◌, ℕ, List, ◌++◌, drop}
use Rattle.honest_store.specs.Sessions.{StoreSession}
use Rattle.store_sessions.specs.Answered.{AnswersEach}
use Rattle.store_sessions.specs.declared.next.Next.TheVariants as next
use Rattle.store_sessions.specs.declared.turn.Turn.{Turn}
use Rattle.store_sessions.specs.Sessions.{next_of}
use Rattle.store_sessions.specs.Turns.{Turns, octets_read, octets_told}

-- Each command at the front of what stands unread is answered, up to where more octets are waited for or no command begins: what is told, the
-- session after, and what is left unread.
pub data Replies : StoreSession → List ℕ → List ℕ → StoreSession → List ℕ → Type 0 where
  Stops : {s after : StoreSession} {unread : List ℕ} (taken : Turn) → Turns s unread after taken → next_of taken ≢ next.Read
      → Replies s unread (octets_told taken) after unread
  GoesOn : {s t after : StoreSession} {unread more rest : List ℕ} (taken : Turn) → Turns s unread t taken → next_of taken ≡ next.Read
      → Replies t (drop (octets_read taken) unread) more after rest → Replies s unread (octets_told taken ++ more) after rest

-- The session after the store answered some of the commands at the front of what stands unread, or none.
abbrev pub AnswersSome : StoreSession → List ℕ → StoreSession → Type 0
AnswersSome s unread after = (answers : List (List ℕ)) × (rest : List ℕ) × AnswersEach s unread answers after rest
