use Rattle.std.proofs.Common.{drop, sym, ap, arith}
use Rattle.pushdown.proofs.StackLemmas.{popped}
use Rattle.pushdown.proofs.stack.Stack.end_first.Goals as goal

pub returns-clause-ended : goal.returns-clause-ended
returns-clause-ended g c = λ e.
    let s = c.args.self.now in
    sym (ap (drop 1) (popped s.count s.first s.second s.third s.fourth s.fifth (omega (arith, c.if-self-lt2.false)) s.in_room))
