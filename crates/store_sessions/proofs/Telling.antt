-- What is read as a command may be answered.
use Rattle.std.proofs.Common.{◌≡◌, ◌⊎◌, inl, inr, ℕ, ◌<◌, ◌^◌, ◌≤◌, List, [], ◌∷◌, length, take, arith, sym, subst, ltb-true}
use Rattle.std.proofs.lemmas.List.Elements.{All-nil, All-cons}
use Rattle.imap_types.specs.declared.command.Command.{Command}
use Rattle.imap_types.specs.declared.command.Command.TheVariants as command
use Rattle.imap_types.specs.Texts.{literal_limit}
use Rattle.command_parts.specs.Fields as fields
use Rattle.honest_store.specs.Sessions.{StoreAnswer, StoreSession}
use Rattle.small_answers.specs.Answers.{AnswersCommand}
use Rattle.store_commands.specs.Answers.{IsCommand, IsReadAs}
use Rattle.store_commands.specs.Written.{IsAskable}
use Rattle.store_commands.specs.declared.command_read.CommandRead.{CommandRead}
use Rattle.store_commands.specs.declared.command_read.CommandRead.TheVariants.{Whole, NeedMore, WantsLiteral, Bad}
use Rattle.small_answers.specs.SmallMail.{HasStorableParts}
use Rattle.small_responses.specs.SendableMail.{AreOctets, HasSendableParts}
use Rattle.small_responses.specs.Tellable.{IsTellableCommand}
use Rattle.store_sessions.specs.Turns.{IsAnswer, Lacks, Undone, Unanswered, octets_read}
use Rattle.store_sessions.specs.declared.turn.Turn.{Turn}
use Rattle.store_sessions.specs.declared.turn.Turn.TheVariants as turns
use Rattle.store_sessions.specs.reading.Asked.{AsksTellable}

octets_fit : (t : List ℕ) → fields.AreOctets t → AreOctets t
octets_fit [] h = All-nil (λ c. c < 256)
octets_fit (c ∷ t) h = All-cons (λ c. c < 256) c t (ltb-true c 256 h.0) (octets_fit t h.1)

within : (n : ℕ) → n ≤ literal_limit → n < 2 ^ 63
within n le = omega (arith, le)

storable : (c : Command) → IsAskable c → HasStorableParts c
storable (command.Create name) h = h
storable (command.Rename from to) h = h.1
storable (command.Append name flags date message) h = within (length message) h.3.1
storable command.Capability h = tt
storable (command.Login user password) h = tt
storable command.Enable h = tt
storable (command.List special_use) h = tt
storable (command.Select name known) h = tt
storable command.Unselect h = tt
storable command.FetchFlags h = tt
storable (command.FetchSlice from to modseq) h = tt
storable (command.FetchNew from modseq) h = tt
storable (command.FetchBody uid) h = tt
storable (command.Store uid add flags) h = tt
storable (command.Move uid name) h = tt
storable (command.Expunge uid) h = tt
storable (command.Delete name) h = tt
storable (command.Subscribe name on) h = tt

sendable : (c : Command) → IsAskable c → HasSendableParts c
sendable (command.Store uid add flags) h = h.1.0
sendable (command.Append name flags date message) h = (h.1.0, octets_fit message h.3.0)
sendable command.Capability h = tt
sendable (command.Login user password) h = tt
sendable command.Enable h = tt
sendable (command.List special_use) h = tt
sendable (command.Select name known) h = tt
sendable command.Unselect h = tt
sendable command.FetchFlags h = tt
sendable (command.FetchSlice from to modseq) h = tt
sendable (command.FetchNew from modseq) h = tt
sendable (command.FetchBody uid) h = tt
sendable (command.Move uid name) h = tt
sendable (command.Expunge uid) h = tt
sendable (command.Create name) h = tt
sendable (command.Delete name) h = tt
sendable (command.Rename from to) h = tt
sendable (command.Subscribe name on) h = tt

pub tellable : (c : Command) → IsAskable c → IsTellableCommand c
tellable c h = record { askable = storable c h; sendable = sendable c h }

-- what an answer reads is within what stands unread
pub read_of_answer : {count : ℕ} (text unread : List ℕ) (turn : Turn) → IsAnswer turn count text → count ≤ length unread → octets_read turn ≤ length unread
read_of_answer text unread (turns.Answer n octets) is most = omega (arith, is.0, most)
read_of_answer text unread turns.GoAhead is most = absurd is
read_of_answer text unread turns.Wait is most = absurd is
read_of_answer text unread turns.End is most = absurd is

-- a command whose answer is lost did nothing, or all that it does
pub lacks_after : {s t : StoreSession} {unread tag : List ℕ} {command : Command} {count : ℕ} → IsReadAs unread (Whole count tag command)
    → (t ≡ s) ⊎ ((a : StoreAnswer) × AnswersCommand s command a t) → Lacks s unread t
lacks_after {s} {t} {unread} {tag} {command} {count} is (inl same) = subst (λ (u : StoreSession). Lacks s unread u) (sym same) (Undone (count, tag, command, is))
lacks_after is (inr done) = Unanswered is done.1

pub asks_tellable : (unread : List ℕ) (read : CommandRead) → IsReadAs unread read → ((b tag : List ℕ) (command : Command) → IsCommand tag command b → IsTellableCommand command)
    → AsksTellable read
asks_tellable unread (Whole count tag command) is law = law (take count unread) tag command is.1
asks_tellable unread NeedMore is law = tt
asks_tellable unread WantsLiteral is law = tt
asks_tellable unread (Bad at) is law = tt
