use Rattle.std.proofs.Common.{sym, refl, arith}
use Rattle.jmap_arguments.proofs.IdLemmas.{number_found, number_missed, none_by_id}
use Rattle.jmap_arguments.proofs.gets.number_with.Goals as goal

pub returns-in-None : goal.returns-in-None
returns-in-None g c = sym (none_by_id c.args.letter c.args.id.now (g.T.Numbers.numbers c.args.there.now) (c.in-None.ensures.none refl) c.requires.small)

pub returns-then-has : goal.returns-then-has
returns-then-has g c =
    number_found c.args.letter c.in-Some.number c.args.id.now (g.T.Numbers.numbers c.args.there.now) (omega arith) c.requires.small c.in-Some.ensures.some (sym c.if-has.ensures)

pub returns-else-has : goal.returns-else-has
returns-else-has g c =
    number_missed c.args.letter c.in-Some.number c.args.id.now (g.T.Numbers.numbers c.args.there.now) (omega arith) c.requires.small c.in-Some.ensures.some (sym c.if-has.ensures)
