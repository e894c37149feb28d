use Rattle.store_commands.proofs.Writing.{written_read}
use Rattle.store_commands.proofs.laws.written_is_read.Goals as goal

pub returns : goal.returns
returns c = λ command n more lt h. written_read command n more lt h
