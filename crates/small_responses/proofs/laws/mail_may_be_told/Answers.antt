use Rattle.small_responses.proofs.MailTold.{mail_stays_told}
use Rattle.small_responses.proofs.OwnersTold.{deliver_told, expunge_told, shift_told, toggle_told}
use Rattle.small_responses.proofs.TextsKept.{first_kept}
use Rattle.small_responses.proofs.laws.mail_may_be_told.Goals as goal

pub returns : goal.returns
returns c = record {
  first = first_kept;
  answers = mail_stays_told;
  deliver = deliver_told;
  toggle_seen = λ before after at small told call. toggle_told before after small told at call;
  shift = λ before after at small told call. shift_told before after small told at call;
  expunge = λ before after at small told call. expunge_told before after small told at call;
}
