use Rattle.mail_state.proofs.SoundLemmas.{one_mark}
use Rattle.mail_state.proofs.laws.one_mark.Goals as goal

pub returns : goal.returns
returns c = one_mark
