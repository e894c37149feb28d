use Rattle.std.proofs.Common.{arith, inr}
use Rattle.client_streams.proofs.lingering.Lingering.make_way.Goals as goal

-- as many are open as may be
pub returns-in-Some-clause-way : goal.returns-in-Some-clause-way
returns-in-Some-clause-way g c = inr (
  c.in-Some.first,
  c.drop_all.result,
  c.drop_all.new.self,
  omega (arith, c.if-len-ge-MAX_LINGERING_CLIENTS.true, c.len.ensures),
  c.in-Some.ensures.items,
  c.drop_all.ensures,
  c.close.ensures,
)
