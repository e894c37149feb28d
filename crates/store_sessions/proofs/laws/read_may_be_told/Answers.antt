use Rattle.store_sessions.proofs.Telling.{tellable}
use Rattle.store_sessions.proofs.laws.read_may_be_told.Goals as goal

pub returns : goal.returns
returns c = λ b tag command is. tellable command (c.read_may_be_asked.ensures b tag command is).1
