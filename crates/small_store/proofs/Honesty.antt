-- What is answered is honest, and what the owner does is a step of others.
use Rattle.std.proofs.Common.{◌≡◌, ℕ, ℤ, ◌^◌, ◌<◌, Bool, true, false, List, Option, length}
use Rattle.std.proofs.lemmas.Bool.{false≢true}
use Rattle.std.specs.Prelude.{IsTrue}
use Rattle.imap_types.specs.declared.command.Command.{Command}
use Rattle.honest_store.specs.Honest.{Honest}
use Rattle.honest_store.specs.Others.{NoStep}
use Rattle.honest_store.specs.StoreMail.{StoreMail}
use Rattle.honest_store.specs.WellFormed.{nearest_date}
use Rattle.honest_store.specs.Sessions.{StoreAnswer, StoreSession}
use Rattle.small_answers.specs.Answers.{AnswersCommand}
use Rattle.small_answers.specs.OwnersCalls.{CallGives, delivered, message_at_place, message_expunged, seen_toggled, shifted}
use Rattle.small_answers.specs.SmallMail.{IsOwnersStep}
use Rattle.small_answers.proofs.Owning.{deliver_step, expunge_step, shift_step, toggle_step}
use Rattle.small_answers.proofs.Whole.{answers_are_honest}
use Rattle.small_responses.specs.Tellable.{IsTellableCommand, IsTellableMail}

pub honest_answer : (before after : StoreSession) (c : Command) (a : StoreAnswer) → IsTellableMail before.mail → IsTellableCommand c → AnswersCommand before c a after
    → Honest NoStep before c a after
honest_answer before after c a mail asked answers = (answers_are_honest before after c a mail.small asked.askable answers).0

only_done : (before after : StoreMail) (due : Option StoreMail) (done : Bool) → CallGives before due done after → (CallGives before due true after → IsOwnersStep before after)
    → IsTrue done → IsOwnersStep before after
only_done before after due true gives step is = step gives
only_done before after due false gives step is = absurd (false≢true is)

module _ (before after : StoreMail) (mail : IsTellableMail before) (done : Bool) where
  pub delivers : (name octets : List ℕ) (date : ℤ) → nearest_date date ≡ date → length octets < 2 ^ 63 → CallGives before (delivered before name octets date) done after
      → IsTrue done → IsOwnersStep before after
  delivers name octets date dated fits gives =
      only_done before after (delivered before name octets date) done gives (λ call. deliver_step before name octets date mail.small dated fits after call)

  pub toggles : (at : ℕ) → CallGives before (seen_toggled before (message_at_place before at)) done after → IsTrue done → IsOwnersStep before after
  toggles at gives = only_done before after (seen_toggled before (message_at_place before at)) done gives (λ call. toggle_step before after mail.small at call)

  pub shifts : (at : ℕ) → CallGives before (shifted before (message_at_place before at)) done after → IsTrue done → IsOwnersStep before after
  shifts at gives = only_done before after (shifted before (message_at_place before at)) done gives (λ call. shift_step before after mail.small at call)

  pub expunges : (at : ℕ) → CallGives before (message_expunged before (message_at_place before at)) done after → IsTrue done → IsOwnersStep before after
  expunges at gives = only_done before after (message_expunged before (message_at_place before at)) done gives (λ call. expunge_step before after mail.small at call)
