-- What is drawn.
use Rattle.std.proofs.Common.{◌≡◌, ◌≤◌, ℕ, ℤ, List, length, unwrap_or, Result, Ok, Err, sym, subst}
use Rattle.message_texts.specs.Messages.{IsMessageText, IsTooLarge}
use Rattle.message_texts.specs.declared.message.TheConstants.{MAX_MESSAGE_OCTETS}
use Rattle.set_jobs.specs.declared.done.SetError.{SetError}
use Rattle.set_jobs.specs.declared.done.SetError.TheVariants.{TooLarge}
use Rattle.set_jobs.specs.declared.job.Job.{Job}
use Rattle.email_creation.specs.Appends.{append_of, DrawsCreation, Written, TooLong}
use Rattle.email_creation.specs.declared.ready.ReadyCreation.{ReadyCreation}

pub written_is : (c : ReadyCreation) (now : ℤ) (word : ℕ) (text : List ℕ) (job : Job) → IsMessageText c.draft now word text → length text ≤ MAX_MESSAGE_OCTETS
    → job ≡ append_of c.name c.flags (unwrap_or c.date now) text → DrawsCreation c now word (Ok job)
written_is c now word text job is fits made = subst (λ (x : Job). DrawsCreation c now word (Ok x)) (sym made) (Written text is fits)

pub too_long_is : (c : ReadyCreation) (now : ℤ) (word size : ℕ) → IsTooLarge MAX_MESSAGE_OCTETS c.draft now word size → DrawsCreation c now word (Err TooLarge)
too_long_is c now word size over = TooLong over.text over.is over.longer
