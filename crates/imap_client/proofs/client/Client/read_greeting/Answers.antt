use Rattle.gate_world.proofs.Joins.{widen}
use Rattle.imap_client.proofs.Greetings.{greeted_alone}
use Rattle.imap_client.proofs.client.Client.read_greeting.Goals as goal

pub returns-clause-tape : goal.returns-clause-tape
returns-clause-tape g c =
    widen _ c.read_greeting_keeping.ensures.tape
    (λ x so. greeted_alone x c.read_greeting_keeping.new.self c.read_greeting_keeping.new.unread c.read_greeting_keeping.result so)
