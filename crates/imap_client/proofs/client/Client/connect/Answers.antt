use Rattle.std.proofs.Common.{◌∙◌}
use Rattle.gate_world.proofs.Joins.{join}
use Rattle.imap_client.proofs.Greetings.{connected}
use Rattle.imap_client.proofs.client.Client.connect.Goals as goal

pub returns-in-Ok-clause-tape : goal.returns-in-Ok-clause-tape
returns-in-Ok-clause-tape g c =
    join _ c.in-Ok.ensures.ok c.live.ensures.tape (λ x y dials lives. connected y c.args.user.now
    (g.W.Taped.hidden c.args.world.now).password c.in_ok-connection.connection.user c.in_ok-connection.connection.password c.live.new.self c.live.result dials
    c.in_ok-connection.ensures.user (c.in_ok-connection.ensures.password ∙ c.password.ensures) lives)
