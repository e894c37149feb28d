use Rattle.std.proofs.Common.{◌≡◌, inr, false, true}
use Rattle.jmap_core.proofs.Bodies.{is_json, no_json}
use Rattle.jmap_core.proofs.request_body.json_of.Goals as goal

pub returns-in-Ok : goal.returns-in-Ok
returns-in-Ok c = is_json c.args.body.now _ c.in-Ok.ensures.ok.0 c.in-Ok.ensures.ok.1

pub returns-else-is_memory : goal.returns-else-is_memory
returns-else-is_memory c = inr (no_json c.args.body.now (c.in-Err.ensures.err (λ m. let t : false ≡ true = c.if-is_memory.ensures.1 m in cc)))
