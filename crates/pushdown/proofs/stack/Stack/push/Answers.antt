use Rattle.std.proofs.Common.{arith}
use Rattle.pushdown.proofs.StackLemmas.{held, pushed}
use Rattle.pushdown.proofs.stack.Stack.push.Goals as goal

pub returns : goal.returns
returns g c =
    let s = c.args.self.now in
    let long = held s.count s.first s.second s.third s.fourth s.fifth s.in_room in
    pushed s.count c.args.symbol s.first s.second s.third s.fourth s.fifth (omega (arith, c.requires, long))
