use Rattle.store_commands.proofs.Asking.{command_askable}
use Rattle.store_commands.proofs.laws.read_may_be_asked.Goals as goal

pub returns : goal.returns
returns c = λ b tag command h. command_askable b tag command h
