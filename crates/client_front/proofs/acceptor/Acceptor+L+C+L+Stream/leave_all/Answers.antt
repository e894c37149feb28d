use Rattle.std.proofs.Common.{inr}
use Rattle.client_front.proofs.acceptor.Acceptor+L+C+L+Stream.leave_all.Goals as goal

pub returns-in-Some-clause-leaves : goal.returns-in-Some-clause-leaves
returns-in-Some-clause-leaves g c = inr (c.in-Some.client, c.in-Some.ensures.open, c.linger.ensures.added, c.linger.ensures.same)
