use Rattle.mail_state.proofs.SoundLemmas.{first_stands}
use Rattle.mail_state.proofs.laws.first_stands.Goals as goal

pub returns : goal.returns
returns c = first_stands
