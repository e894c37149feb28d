use Rattle.std.proofs.Common.{arith, refl}
use Rattle.query_arguments.proofs.IdLemmas.{none_read, read_back}
use Rattle.query_core.proofs.parts.number_of_text.Goals as goal

pub returns-in-None : goal.returns-in-None
returns-in-None c = none_read c.args.letter c.args.id.now (c.in-None.ensures.none refl)

pub returns-in-Some : goal.returns-in-Some
returns-in-Some c = read_back c.args.letter c.in-Some.number c.args.id.now (omega arith) c.in-Some.ensures.some
