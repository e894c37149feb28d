use Rattle.std.proofs.Common.{ℕ, Bool}
use Rattle.client_front.proofs.Served.{nothing-of-served, so-of-served}
use Rattle.client_front.specs.Handing.{Accepts, AcceptsNothing}
use Rattle.client_front.specs.declared.serving.Serving.{Serving}
use Rattle.client_streams.specs.Leaving.{has_place, open_of}
use Rattle.client_front.proofs.front.ClientFront.send.Goals as goal

pub returns-in-Some-clause-accepts : goal.returns-in-Some-clause-accepts
returns-in-Some-clause-accepts g c =
    so-of-served c.has_place-keeps.result (has_place (open_of c.args.self.now.acceptor.leaving)) c.args.self.now.current c.in-Some.serving c.send.new.self
    c.has_place-keeps.ensures c.in-Some.is c.send.result
    (λ (k : Bool) (n : ℕ) (before after : Serving g.row.L-Stream.Denot). Accepts g.L.Stream.ClientStream.takes g.L.Stream.ClientStream.sends g.C.Ticks.reads k c.args.from.now n
    c.args.self.now.acceptor.clock c.send.new.clock (record { serving = before; kept = c.args.self.now.acceptor.leaving.served }) (record { serving = after; kept = c.send.new.kept }))
    c.send.ensures.accepts

pub returns-in-Some-clause-nothing : goal.returns-in-Some-clause-nothing
returns-in-Some-clause-nothing g c =
    nothing-of-served c.has_place-keeps.result (has_place (open_of c.args.self.now.acceptor.leaving)) c.args.self.now.current c.in-Some.serving c.send.new.self
    c.has_place-keeps.ensures c.in-Some.is c.send.result
    (λ (k : Bool) (before after : Serving g.row.L-Stream.Denot). AcceptsNothing g.L.Stream.ClientStream.takes g.L.Stream.ClientStream.sends g.C.Ticks.reads k c.args.from.now
    c.args.self.now.acceptor.clock c.send.new.clock (record { serving = before; kept = c.args.self.now.acceptor.leaving.served }) (record { serving = after; kept = c.send.new.kept }))
    c.send.ensures.nothing
