use Rattle.std.proofs.Common.{◌≡◌, drop}
use Rattle.std.specs.Option.{option_copied}
use Rattle.imap_client.specs.Bodies as bodies
use Rattle.imap_client.proofs.Lasts.{later}
use Rattle.imap_client.proofs.body.last_body.Given as goal

abbrev pub invariant-loop-response : goal.invariant-loop-response
invariant-loop-response l = later (option_copied l.last) (bodies.last_body l.uid (drop l.response-index l.responses)) ≡ bodies.last_body l.uid l.responses
