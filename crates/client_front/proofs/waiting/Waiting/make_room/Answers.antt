use Rattle.std.proofs.Common.{rules, true, false}
use Rattle.client_front.proofs.Places.{oldest-leaves}
use Rattle.client_front.specs.Waiting.{NoAsker, OneAsker, held}
use Rattle.client_front.proofs.waiting.Waiting.make_room.Goals as goal

pub oldest-init : goal.oldest-init
oldest-init g c = NoAsker

-- the client that came first asks
pub oldest-preserved : goal.oldest-preserved
oldest-preserved g c =
    OneAsker c.oldest.invariant
    (oldest-leaves g.S.ClientStream.shows g.S.ClientStream.closes c.oldest.self.idle.items c.oldest.self.asking.items (held c.leave.new.self) c.look_at.result c.is_whole-asks.result true
    (search rules) c.look_at.ensures c.is_whole-asks.ensures c.if-not-asks.false c.leave.ensures.idle c.leave.ensures.asking c.leave.ensures.closed)

-- it is closed
pub returns-then-not-asks-clause-made : goal.returns-then-not-asks-clause-made
returns-then-not-asks-clause-made g c = (
  held c.oldest.self,
  c.oldest.invariant,
  oldest-leaves g.S.ClientStream.shows g.S.ClientStream.closes c.oldest.self.idle.items c.oldest.self.asking.items (held c.leave.new.self) c.look_at.result c.is_whole-asks.result false
      (search rules) c.look_at.ensures c.is_whole-asks.ensures c.if-not-asks.true c.leave.ensures.idle c.leave.ensures.asking c.leave.ensures.closed,
)
