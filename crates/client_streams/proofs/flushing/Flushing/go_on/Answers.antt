use Rattle.std.proofs.Common.{arith}
use Rattle.client_streams.proofs.FlushedOn.{all-turned, none-turned, one-turned}
use Rattle.client_streams.proofs.flushing.Flushing.go_on.Goals as goal

pub clients-init : goal.clients-init
clients-init g c =
    none-turned g.S.ClientStream.takes g.S.ClientStream.ends g.S.ClientStream.gives g.S.ClientStream.closes c.args.now c.args.lingering.now.clients.items
    c.args.self.now.clients.items

pub clients-preserved : goal.clients-preserved
clients-preserved g c =
    one-turned g.S.ClientStream.takes g.S.ClientStream.ends g.S.ClientStream.gives g.S.ClientStream.closes c.args.now c.args.lingering.now.clients.items
    c.clients.lingering.clients.items c.first_goes_on.new.lingering.clients.items c.args.self.now.clients.items c.clients.self.clients.items
    c.first_goes_on.new.self.clients.items c.clients.turn (omega (arith, c.clients-test.true, c.len-turn-end.ensures)) c.clients.invariant
    c.first_goes_on.ensures

pub returns : goal.returns
returns g c =
    all-turned g.S.ClientStream.takes g.S.ClientStream.ends g.S.ClientStream.gives g.S.ClientStream.closes c.args.now c.args.lingering.now.clients.items
    c.clients.lingering.clients.items c.args.self.now.clients.items c.clients.self.clients.items c.clients.turn
    (omega (arith, c.clients-test.false, c.clients.auto.turn-end, c.len-turn-end.ensures)) c.clients.invariant
