-- What a creation that passes its checks comes to, once a moment and a word are drawn: one APPEND (RFC 9051 section 6.3.12).
use Rattle.std.specs.Prelude.{◌≡◌, ◌<◌, ◌≤◌, ℕ, ℤ, List, [], ◌∷◌, length, unwrap_or, Result, Ok, Err}
use Rattle.imap_types.specs.declared.command.Command.TheVariants.{Append}
use Rattle.text_words.specs.Cuts.{Each}
use Rattle.message_laws.specs.SafeTexts.{IsLines, is_octet}
use Rattle.message_texts.specs.Messages.{IsMessageText}
use Rattle.message_texts.specs.declared.message.TheConstants.{MAX_MESSAGE_OCTETS}
use Rattle.set_jobs.specs.declared.done.Done.TheVariants.{Not}
use Rattle.set_jobs.specs.declared.done.SetError.{SetError}
use Rattle.set_jobs.specs.declared.done.SetError.TheVariants.{NotFound, TooLarge}
use Rattle.set_jobs.specs.declared.job.Job.{Job}
use Rattle.set_jobs.specs.declared.step.Step.TheVariants.{Change}
use Rattle.email_creation.specs.declared.ready.ReadyCreation.{ReadyCreation}

-- One APPEND, for which no folder has to be selected. By itself, before the store has told the message's UID, it made no Email.
abbrev pub append_of : List ℕ → List (List ℕ) → ℤ → List ℕ → Job
append_of name flags date message = record { steps = Change (Append name flags date message) ∷ []; done = Not NotFound }

-- that of the message, with the date that is asked or else the moment
abbrev pub append_job : ReadyCreation → ℤ → List ℕ → Job
append_job c now message = append_of c.name c.flags (unwrap_or c.date now) message

-- what it comes to with this moment and this word: the job of its message, or tooLarge
pub data DrawsCreation (c : ReadyCreation) (now : ℤ) (word : ℕ) : Result Job SetError → Type 0 where
  Written : (message : List ℕ) → IsMessageText c.draft now word message → length message ≤ MAX_MESSAGE_OCTETS → DrawsCreation c now word (Ok (append_job c now message))
  TooLong : (message : List ℕ) → IsMessageText c.draft now word message → MAX_MESSAGE_OCTETS < length message → DrawsCreation c now word (Err TooLarge)

-- uploads are octets
abbrev pub AreOctets : List (List ℕ) → Type 0
AreOctets [] = Unit {0}
AreOctets (upload ∷ uploads) = Each is_octet upload × AreOctets uploads

-- the job puts a message into a folder that breaks no line
pub record AppendsLines (job : Job) : Type 0 where
  pub name : List ℕ
  pub flags : List (List ℕ)
  pub date : ℤ
  pub message : List ℕ
  pub steps_are : job.steps ≡ Change (Append name flags date message) ∷ []
  pub lines : IsLines message
