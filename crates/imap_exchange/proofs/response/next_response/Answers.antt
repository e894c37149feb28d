use Rattle.gate_world.proofs.Joins.{none}
use Rattle.imap_exchange.proofs.Responses.{read_held}
use Rattle.imap_exchange.proofs.response.next_response.Goals as goal

pub returns-then-not-up-clause-tape : goal.returns-then-not-up-clause-tape
returns-then-not-up-clause-tape g c =
    none _ _ (read_held c.args.begun c.args.up.now c.args.received.now c.held_response.new.received c.held_response.result c.if-not-up.true c.held_response.ensures.reads)
