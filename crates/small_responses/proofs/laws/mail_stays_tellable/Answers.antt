use Rattle.small_answers.proofs.First.{first_is_small}
use Rattle.small_answers.proofs.Owning.{deliver_step, expunge_step, shift_step, toggle_step}
use Rattle.small_answers.proofs.Whole.{answers_are_honest}
use Rattle.small_responses.proofs.AnswersSent.{answers_are_sent}
use Rattle.small_responses.proofs.MailTold.{mail_stays_told}
use Rattle.small_responses.proofs.OwnersTold.{deliver_told, expunge_told, shift_told, toggle_told}
use Rattle.small_responses.proofs.TextsKept.{first_kept}
use Rattle.small_responses.proofs.laws.mail_stays_tellable.Goals as goal

pub returns : goal.returns
returns c = record {
  first = record { small = first_is_small; sendable = first_kept };
  answers = λ before after asked a mail parts answer. (
    record {
      small = (answers_are_honest before after asked a mail.small parts.askable answer).1;
      sendable = mail_stays_told before after asked a mail.sendable parts.sendable answer;
    },
    λ tag is. answers_are_sent before after asked a tag mail.small mail.sendable parts.sendable answer is,
  );
  deliver = λ before after name octets date mail dated fits are call. record {
    small = (deliver_step before name octets date mail.small dated fits after call).small;
    sendable = deliver_told before after name octets date mail.sendable are call;
  };
  toggle_seen = λ before after at mail call. record {
    small = (toggle_step before after mail.small at call).small;
    sendable = toggle_told before after mail.small mail.sendable at call;
  };
  shift = λ before after at mail call. record {
    small = (shift_step before after mail.small at call).small;
    sendable = shift_told before after mail.small mail.sendable at call;
  };
  expunge = λ before after at mail call. record {
    small = (expunge_step before after mail.small at call).small;
    sendable = expunge_told before after mail.small mail.sendable at call;
  };
}
