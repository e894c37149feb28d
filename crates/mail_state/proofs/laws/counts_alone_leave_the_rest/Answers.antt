use Rattle.mail_state.proofs.SoundLemmas.{counts_alone_leave}
use Rattle.mail_state.proofs.laws.counts_alone_leave_the_rest.Goals as goal

pub returns : goal.returns
returns c = counts_alone_leave
