use Rattle.mail_state.proofs.SoundLemmas.{all_are_sound}
use Rattle.mail_state.proofs.laws.all_are_sound.Goals as goal

pub returns : goal.returns
returns c = all_are_sound
