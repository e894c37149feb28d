use Rattle.store_commands.proofs.Writing.{pieces_want}
use Rattle.store_commands.proofs.laws.piece_wants_literal.Goals as goal

pub returns : goal.returns
returns c = λ command n sent left lt h e some more. pieces_want command n sent left lt h e some more
