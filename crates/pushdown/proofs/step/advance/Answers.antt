use Rattle.std.proofs.Common.{length, ap, sym, subst, ◌∙◌, arith}
use Rattle.pushdown.specs.Flow.{CanStep}
use Rattle.pushdown.proofs.Room.{two_room}
use Rattle.pushdown.proofs.step.advance.Goals as goal

pub push-requires-in-Two-2 : goal.push-requires-in-Two-2
push-requires-in-Two-2 g c =
    let machine = g.S.Symbol.automaton in
    let ready = subst (CanStep machine) c.in-Some.ensures c.loop-symbol.invariant.ready in
    let two = two_room machine c.loop-symbol.invariant.laws c.in-Some.symbol c.args.c c.in-Two.a c.in-Two.b ready.0.0 (sym c.rule.ensures ∙ c.in-Two.is) in
    let pushed = ap length c.push-in-Two.ensures in
    omega (arith, ready.1.0, two, pushed)
