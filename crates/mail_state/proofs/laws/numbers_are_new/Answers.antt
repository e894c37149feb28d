use Rattle.mail_state.proofs.SoundLemmas.{numbers_are_new}
use Rattle.mail_state.proofs.laws.numbers_are_new.Goals as goal

pub returns : goal.returns
returns c = numbers_are_new
