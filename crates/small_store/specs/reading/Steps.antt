-- What a call gives: an answer, and the session after it.
use Rattle.std.specs.Prelude.{◌≡◌, ℕ, Option}
use Rattle.imap_types.specs.declared.command.Command.{Command}
use Rattle.imap_types.specs.declared.command.Command.TheVariants as command
use Rattle.honest_store.specs.StoreMail.{StoreMail}
use Rattle.honest_store.specs.Sessions.{StoreSession, StoreAnswer}
use Rattle.small_answers.specs.Answers.{Reply, ok_answer}

abbrev pub session_of : StoreMail → Option ℕ → StoreSession
session_of mail selected = record { mail = mail; selected = selected }

pub record Gives (r : Reply) (a : StoreAnswer) (after : StoreSession) : Type 0 where
  pub answer : a ≡ ok_answer r
  pub session : after ≡ r.session

-- commands that read messages of the folder that is selected
abbrev pub ReadsMessages : Command → Type 0
ReadsMessages command.FetchFlags = Unit {0}
ReadsMessages (command.FetchSlice from to modseq) = Unit {0}
ReadsMessages (command.FetchNew from modseq) = Unit {0}
ReadsMessages (command.FetchBody uid) = Unit {0}
ReadsMessages _ = ⊥

-- and those that change them
abbrev pub UsesMessages : Command → Type 0
UsesMessages (command.Store uid add flags) = Unit {0}
UsesMessages (command.Move uid name) = Unit {0}
UsesMessages (command.Expunge uid) = Unit {0}
UsesMessages c = ReadsMessages c
