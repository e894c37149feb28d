use Rattle.gate_world.proofs.Joins.{join, widen}
use Rattle.imap_client.proofs.Connections.{connecting_stops, on_ok}
use Rattle.imap_client.proofs.Greetings.{lived, unwelcomed}
use Rattle.imap_client.proofs.client.Client.live.Goals as goal

pub returns-in-Ok-clause-tape : goal.returns-in-Ok-clause-tape
returns-in-Ok-clause-tape g c =
    join _ c.in-Ok.ensures.tape c.follow.ensures.tape (λ x y greeted follows. lived y c.args.connection.user c.args.connection.password c.in-Ok.preauth
    c.args.connection.stage c.read_greeting.new.self c.follow.new.client c.follow.result c.requires.stage greeted
    (λ life stands. let f = follows life stands in (f.0, f.1.exchanges, f.1.follows)))

pub returns-in-Err-clause-tape : goal.returns-in-Err-clause-tape
returns-in-Err-clause-tape g c =
    widen _ c.in-Err.ensures.tape (λ x greeted. unwelcomed c.args.connection.user c.args.connection.password c.in-Err.end c.read_greeting.new.self greeted)

pub returns-in-Ok-clause-alive : goal.returns-in-Ok-clause-alive
returns-in-Ok-clause-alive g c = on_ok c.follow.result (λ alive. alive (connecting_stops _ _ _ _)) c.follow.ensures.alive
