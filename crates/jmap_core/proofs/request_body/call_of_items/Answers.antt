use Rattle.std.proofs.Common.{sym}
use Rattle.jmap_core.proofs.Bodies.{no_triple}
use Rattle.jmap_core.proofs.request_body.call_of_items.Goals as goal

pub returns-then-items-ne3 : goal.returns-then-items-ne3
returns-then-items-ne3 c = sym (no_triple c.args.items.now c.if-items-ne3.true)
