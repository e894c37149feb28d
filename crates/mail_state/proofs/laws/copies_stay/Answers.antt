use Rattle.mail_state.proofs.SoundLemmas.{copies_stay_right}
use Rattle.mail_state.proofs.laws.copies_stay.Goals as goal

pub returns : goal.returns
returns c = copies_stay_right
