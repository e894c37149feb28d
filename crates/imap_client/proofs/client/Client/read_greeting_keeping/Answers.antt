use Rattle.gate_world.proofs.Joins.{join, widen}
use Rattle.imap_client.proofs.Greetings.{met, unwelcome}
use Rattle.imap_client.proofs.client.Client.read_greeting_keeping.Goals as goal

pub returns-in-Ok-clause-tape : goal.returns-in-Ok-clause-tape
returns-in-Ok-clause-tape g c =
    widen _ c.in-Ok.ensures.tape
    (λ x greets. met c.greet.new.unread c.greet.new.up c.in-Ok.preauth c.begin.new.self c.begin.ensures c.in-Ok.ensures.stays greets)

pub returns-in-Err-clause-tape : goal.returns-in-Err-clause-tape
returns-in-Err-clause-tape g c =
    join _ c.in-Err.ensures.tape c.hang_up_where.ensures.tape (λ x y greets hangs. unwelcome y c.greet.new.unread c.greet.new.up c.in-Err.end greets hangs)
