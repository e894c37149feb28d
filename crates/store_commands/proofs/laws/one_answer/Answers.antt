use Rattle.store_commands.specs.reading.Commands.{command_at}
use Rattle.store_commands.proofs.Answering.{one_answer_of}
use Rattle.store_commands.proofs.Spelling.{command_reader}
use Rattle.store_commands.proofs.laws.one_answer.Goals as goal

pub returns : goal.returns
returns c = λ b p q h k. one_answer_of command_at command_reader b p q h k
