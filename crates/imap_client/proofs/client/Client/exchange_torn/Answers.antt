use Rattle.gate_world.proofs.Joins.{widen}
use Rattle.imap_client.proofs.client.Client.exchange_torn.Goals as goal

pub returns-clause-tape : goal.returns-clause-tape
returns-clause-tape g c = widen _ c.exchange_keeping.ensures.tape (λ x so life stands. let f = so life stands in (f.0, f.1, f.2))
