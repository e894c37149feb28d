use Rattle.std.proofs.Common.{rules, refl}
use Rattle.client_streams.proofs.FlushedOn.{first-lost, first-sent, first-stays, none-stands}
use Rattle.client_streams.proofs.flushing.Flushing.first_goes_on.Goals as goal

pub returns-in_default : goal.returns-in_default
returns-in_default g c =
    none-stands g.S.ClientStream.takes g.S.ClientStream.ends g.S.ClientStream.gives g.S.ClientStream.closes c.args.now c.args.self.now.clients.items
    c.pop_front.new.self.items c.args.lingering.now.clients.items c.args.lingering.now.clients.items (search rules) (search rules) refl

pub returns-in-Waits : goal.returns-in-Waits
returns-in-Waits g c =
    first-stays g.S.ClientStream.takes g.S.ClientStream.ends g.S.ClientStream.gives g.S.ClientStream.closes c.args.now c.args.self.now.clients.items
    c.pop_front.new.self.items c.push_back_reserved.new.self.items c.args.lingering.now.clients.items c.in-Some.client c.go_on.new.self
    c.in-Some.ensures.items c.in-Waits.ensures c.push_back_reserved.ensures.items

pub returns-in-Sent : goal.returns-in-Sent
returns-in-Sent g c =
    first-sent g.S.ClientStream.takes g.S.ClientStream.ends g.S.ClientStream.gives g.S.ClientStream.closes c.args.now c.args.self.now.clients.items
    c.pop_front.new.self.items c.args.lingering.now.clients.items c.add.new.self.clients.items c.in-Some.client c.go_on.new.self c.end-finished.result.0
    c.in-Some.ensures.items c.in-Sent.ensures c.end-finished.ensures c.add.ensures

pub returns-in-Lost : goal.returns-in-Lost
returns-in-Lost g c =
    first-lost g.S.ClientStream.takes g.S.ClientStream.ends g.S.ClientStream.gives g.S.ClientStream.closes c.args.now c.args.self.now.clients.items
    c.pop_front.new.self.items c.args.lingering.now.clients.items c.in-Some.client c.go_on.new.self c.in-Some.ensures.items c.in-Lost.ensures
    c.close-buffer.ensures
