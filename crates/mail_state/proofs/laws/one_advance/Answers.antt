use Rattle.mail_state.proofs.SoundLemmas.{one_advance}
use Rattle.mail_state.proofs.laws.one_advance.Goals as goal

pub returns : goal.returns
returns c = one_advance
