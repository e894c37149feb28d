use Rattle.client_front.proofs.Offered.{offered-kept, offered-none}
use Rattle.client_front.proofs.serving.Serving.offer.Goals as goal

pub returns-then-keeps-clause-offers : goal.returns-then-keeps-clause-offers
returns-then-keeps-clause-offers g c =
    rw c.if-keeps.true
    (offered-kept g.S.ClientStream.takes c.args.from.now c.in_ok-count.count c.put.result (record { serving = c.args.self.now; kept = c.args.kept.now })
    (record { serving = c.give_now.new.self; kept = c.give_now.new.kept }) c.put.new.self c.in_ok-count.ensures.gives c.if-count-gt0.false c.put.ensures.count
    c.put.ensures.put)

pub returns-clause-offers : goal.returns-clause-offers
returns-clause-offers g c =
    rw c.if-keeps.false
    (offered-none g.S.ClientStream.takes c.args.from.now c.in_ok-count.count (record { serving = c.args.self.now; kept = c.args.kept.now })
    (record { serving = c.give_now.new.self; kept = c.give_now.new.kept }) c.in_ok-count.ensures.gives c.if-count-gt0.false)
