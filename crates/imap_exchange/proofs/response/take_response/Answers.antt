use Rattle.std.proofs.Common.{arith, ◌<◌}
use Rattle.imap_exchange.proofs.Fronts.{whole_some}
use Rattle.imap_exchange.proofs.response.take_response.Goals as goal

pub returns-clause-progress : goal.returns-clause-progress
returns-clause-progress c =
    let some : 0 < c.args.length = whole_some _ _ c.requires in
    omega (arith, c.skip.ensures.room)
