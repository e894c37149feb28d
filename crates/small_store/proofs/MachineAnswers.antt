-- What is answered is an answer to the command, and leaves mail that can be told.
use Rattle.std.proofs.Common.{◌≡◌, Bool, true, false, Result, Ok, Err, sym, subst}
use Rattle.std.specs.Prelude.{IfOk, MatchBool, OnErr, OnOk}
use Rattle.std.specs.declared.alloc.AllocError.{AllocError}
use Rattle.imap_types.specs.declared.command.Command.{Command}
use Rattle.honest_store.specs.Honest.{after_no}
use Rattle.honest_store.specs.Sessions.{StoreAnswer, StoreSession}
use Rattle.small_answers.specs.Answers.{AnswersCommand, Refused, Accepted, no_answer, ok_answer, ok_reply}
use Rattle.small_answers.specs.Causes.{RefusalCause}
use Rattle.small_responses.specs.Tellable.{IsTellableCommand, IsTellableMail}
use Rattle.small_store.specs.reading.Steps.{Gives}
use Rattle.small_store.proofs.Telling.{tellable_answered}

module _ (s after : StoreSession) (c : Command) where
  pub refused : (result : Result StoreAnswer AllocError) → RefusalCause s c → IfOk result (λ (a : StoreAnswer). a ≡ no_answer c s.selected)
      → OnOk result (after ≡ after_no c s) → IfOk result (λ (a : StoreAnswer). AnswersCommand s c a after)
  refused (Ok a) cause answer session =
      subst (λ (x : StoreAnswer). AnswersCommand s c x after) (sym answer)
      (subst (λ (t : StoreSession). AnswersCommand s c (no_answer c s.selected) t) (sym session) (Refused cause))
  refused (Err e) cause answer session = tt

  pub accepted : (a : StoreAnswer) → (RefusalCause s c → ⊥) → Gives (ok_reply s c) a after → AnswersCommand s c a after
  accepted a free gives =
      subst (λ (x : StoreAnswer). AnswersCommand s c x after) (sym gives.answer)
      (subst (λ (t : StoreSession). AnswersCommand s c (ok_answer (ok_reply s c)) t) (sym gives.session) (Accepted free))

  pub told_either : (result : Result StoreAnswer AllocError) → IsTellableMail s.mail → IsTellableCommand c → IfOk result (λ (a : StoreAnswer). AnswersCommand s c a after)
      → OnErr result (after ≡ s) → IsTellableMail after.mail
  told_either (Ok a) mail parts answers kept = tellable_answered s after c a mail parts answers
  told_either (Err e) mail parts answers kept = subst (λ (t : StoreSession). IsTellableMail t.mail) (sym kept) mail

-- whether there is a cause
pub cause_there : (b : Bool) (P : Type 0) → MatchBool b P (P → ⊥) → b ≡ true → P
cause_there b P by is = subst (λ (x : Bool). MatchBool x P (P → ⊥)) is by

pub cause_free : (b : Bool) (P : Type 0) → MatchBool b P (P → ⊥) → b ≡ false → P → ⊥
cause_free b P by is = subst (λ (x : Bool). MatchBool x P (P → ⊥)) is by

-- what holds holds beside an error
pub beside_error : {T E P : Type 0} (result : Result T E) → P → OnErr result P
beside_error (Ok t) so = tt
beside_error (Err e) so = so
