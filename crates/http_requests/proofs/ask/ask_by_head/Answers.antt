use Rattle.std.proofs.Common.{rules, inr, refl}
use Rattle.gate_world.proofs.Joins.{none}
use Rattle.http_requests.specs.Asking.{IsLetIn}
use Rattle.http_requests.proofs.ask.ask_by_head.Goals as goal

pub returns-in-Err-clause-tape : goal.returns-in-Err-clause-tape
returns-in-Err-clause-tape g c =
    let let_in : IsLetIn (g.W.Taped.hidden c.args.world.now).token c.args.head.now.token = search rules in
    none _ _ (inr (let_in, inr (refl, refl)))
