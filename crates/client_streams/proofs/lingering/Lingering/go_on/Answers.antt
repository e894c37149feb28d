use Rattle.std.proofs.Common.{arith}
use Rattle.client_streams.proofs.GoneOn.{all-turned, none-turned, one-turned}
use Rattle.client_streams.proofs.lingering.Lingering.go_on.Goals as goal

pub loop-turn-init : goal.loop-turn-init
loop-turn-init g c = none-turned g.S.ClientStream.gives g.S.ClientStream.closes c.args.now c.args.self.now.clients.items

pub loop-turn-preserved : goal.loop-turn-preserved
loop-turn-preserved g c =
    one-turned g.S.ClientStream.gives g.S.ClientStream.closes c.args.now c.args.self.now.clients.items c.loop-turn.self.clients.items c.first_goes_on.new.self.clients.items c.loop-turn.turn
    (omega (arith, c.loop-turn-test.true, c.len-turn-end.ensures)) c.loop-turn.invariant c.first_goes_on.ensures

pub returns : goal.returns
returns g c =
    all-turned g.S.ClientStream.gives g.S.ClientStream.closes c.args.now c.args.self.now.clients.items c.loop-turn.self.clients.items c.loop-turn.turn
    (omega (arith, c.loop-turn-test.false, c.loop-turn.auto.turn-end, c.len-turn-end.ensures)) c.loop-turn.invariant
