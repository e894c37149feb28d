-- The small store answers in one way.
use Rattle.std.proofs.Common.{◌≡◌, refl}
use Rattle.imap_types.specs.declared.command.Command.{Command}
use Rattle.honest_store.specs.Sessions.{StoreAnswer, StoreSession}
use Rattle.small_answers.specs.Answers.{AnswersCommand, Refused, Accepted}

same_answer : {s t u : StoreSession} {c : Command} {a b : StoreAnswer} → AnswersCommand s c a t → AnswersCommand s c b u → (a ≡ b) × (t ≡ u)
same_answer (Refused cause) (Refused other) = (refl, refl)
same_answer (Refused cause) (Accepted free) = absurd (free cause)
same_answer (Accepted free) (Refused cause) = absurd (free cause)
same_answer (Accepted free) (Accepted other) = (refl, refl)

pub one_answer : (s t u : StoreSession) (c : Command) (a b : StoreAnswer) → AnswersCommand s c a t → AnswersCommand s c b u → (a ≡ b) × (t ≡ u)
one_answer s t u c a b h k = same_answer h k
