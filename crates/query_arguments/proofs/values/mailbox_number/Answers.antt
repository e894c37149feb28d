use Rattle.std.proofs.Common.{arith, refl}
use Rattle.jmap_arguments.specs.Ids.{mailbox_letter}
use Rattle.query_arguments.proofs.IdLemmas.{none_read, read_back}
use Rattle.query_arguments.proofs.values.mailbox_number.Goals as goal

pub returns-in-None : goal.returns-in-None
returns-in-None c = none_read mailbox_letter c.args.id.now (c.in-None.ensures.none refl)

pub returns-in-Some : goal.returns-in-Some
returns-in-Some c = read_back mailbox_letter c.in-Some.number c.args.id.now (omega arith) c.in-Some.ensures.some
