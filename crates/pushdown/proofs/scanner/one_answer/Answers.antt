use Rattle.pushdown.proofs.Alone.{one_answer}
use Rattle.pushdown.proofs.scanner.one_answer.Goals as goal

pub returns : goal.returns
returns g c = one_answer g.S.Symbol.automaton c.lawful.ensures
