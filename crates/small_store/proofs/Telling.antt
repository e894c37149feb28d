-- Mail that can be told stays so, whatever is answered and whatever the owner does.
use Rattle.std.proofs.Common.{◌≡◌, ℕ, ℤ, ◌^◌, ◌<◌, true, List, length}
use Rattle.imap_types.specs.declared.command.Command.{Command}
use Rattle.honest_store.specs.StoreMail.{StoreMail}
use Rattle.honest_store.specs.WellFormed.{nearest_date}
use Rattle.honest_store.specs.Sessions.{StoreAnswer, StoreSession}
use Rattle.small_answers.specs.Answers.{AnswersCommand}
use Rattle.small_answers.specs.Changes.{first_mail}
use Rattle.small_answers.specs.OwnersCalls.{CallGives, delivered, message_at_place, message_expunged, seen_toggled, shifted}
use Rattle.small_answers.proofs.First.{first_is_small}
use Rattle.small_answers.proofs.Owning.{deliver_step, expunge_step, shift_step, toggle_step}
use Rattle.small_answers.proofs.Whole.{answers_are_honest}
use Rattle.small_responses.specs.SendableMail.{AreOctets}
use Rattle.small_responses.specs.Tellable.{IsTellableCommand, IsTellableMail}
use Rattle.small_responses.proofs.MailTold.{mail_stays_told}
use Rattle.small_responses.proofs.OwnersTold.{deliver_told, expunge_told, shift_told, toggle_told}
use Rattle.small_responses.proofs.TextsKept.{first_kept}

pub first_tellable : IsTellableMail first_mail
first_tellable = record { small = first_is_small; sendable = first_kept }

pub tellable_answered : (before after : StoreSession) (c : Command) (a : StoreAnswer) → IsTellableMail before.mail → IsTellableCommand c → AnswersCommand before c a after
    → IsTellableMail after.mail
tellable_answered before after asked a mail parts answer = record {
  small = (answers_are_honest before after asked a mail.small parts.askable answer).1;
  sendable = mail_stays_told before after asked a mail.sendable parts.sendable answer;
}

module _ (before after : StoreMail) (mail : IsTellableMail before) where
  pub tellable_delivered : (name octets : List ℕ) (date : ℤ) → nearest_date date ≡ date → length octets < 2 ^ 63 → AreOctets octets
      → CallGives before (delivered before name octets date) true after → IsTellableMail after
  tellable_delivered name octets date dated fits are call = record {
    small = (deliver_step before name octets date mail.small dated fits after call).small;
    sendable = deliver_told before after name octets date mail.sendable are call;
  }

  pub tellable_toggled : (at : ℕ) → CallGives before (seen_toggled before (message_at_place before at)) true after → IsTellableMail after
  tellable_toggled at call = record {
    small = (toggle_step before after mail.small at call).small;
    sendable = toggle_told before after mail.small mail.sendable at call;
  }

  pub tellable_shifted : (at : ℕ) → CallGives before (shifted before (message_at_place before at)) true after → IsTellableMail after
  tellable_shifted at call = record {
    small = (shift_step before after mail.small at call).small;
    sendable = shift_told before after mail.small mail.sendable at call;
  }

  pub tellable_expunged : (at : ℕ) → CallGives before (message_expunged before (message_at_place before at)) true after → IsTellableMail after
  tellable_expunged at call = record {
    small = (expunge_step before after mail.small at call).small;
    sendable = expunge_told before after mail.small mail.sendable at call;
  }
