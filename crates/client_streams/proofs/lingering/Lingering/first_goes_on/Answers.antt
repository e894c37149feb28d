use Rattle.std.proofs.Common.{rules}
use Rattle.client_streams.proofs.GoneOn.{first-leaves, first-stays, none-stands}
use Rattle.client_streams.proofs.lingering.Lingering.first_goes_on.Goals as goal

pub returns-in_default : goal.returns-in_default
returns-in_default g c =
    none-stands g.S.ClientStream.gives g.S.ClientStream.closes c.args.now c.args.self.now.clients.items c.pop_front.new.self.items (search rules) (search rules)

pub returns-then-stays_open : goal.returns-then-stays_open
returns-then-stays_open g c =
    first-stays g.S.ClientStream.gives g.S.ClientStream.closes c.args.now c.args.self.now.clients.items c.pop_front.new.self.items c.push_back_reserved.new.self.items c.in-Some.client
    c.stays_open.new.self c.in-Some.ensures.items c.if-stays_open.ensures c.push_back_reserved.ensures.items

pub returns-else-stays_open : goal.returns-else-stays_open
returns-else-stays_open g c =
    first-leaves g.S.ClientStream.gives g.S.ClientStream.closes c.args.now c.args.self.now.clients.items c.pop_front.new.self.items c.in-Some.client c.stays_open.new.self c.in-Some.ensures.items
    c.if-stays_open.ensures c.close.ensures
