use Rattle.small_answers.proofs.Owning.{deliver_step, expunge_step, shift_step, toggle_step}
use Rattle.small_answers.proofs.laws.owners_calls_are_steps.Goals as goal

pub returns : goal.returns
returns c = record {
  deliver = λ before after name octets date small dated fits call. deliver_step before name octets date small dated fits after call;
  toggle_seen = λ before after at small call. toggle_step before after small at call;
  shift = λ before after at small call. shift_step before after small at call;
  expunge = λ before after at small call. expunge_step before after small at call;
}
