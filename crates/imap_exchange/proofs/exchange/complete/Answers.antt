use Rattle.std.proofs.lemmas.Result.{err_from_is_err_and}
use Rattle.gate_world.proofs.Joins.{none}
use Rattle.imap_exchange.proofs.Conversing.{silent}
use Rattle.imap_exchange.proofs.exchange.complete.Goals as goal

pub returns-in_err-before-clause-tape : goal.returns-in_err-before-clause-tape
returns-in_err-before-clause-tape g c =
    let is = err_from_is_err_and c.from_residual.result c.from_residual.ensures.1 in
    rw (is.1, is.2, c.requires) (none _ _ (silent _ _ _ _))

pub returns-in_err-target-clause-tape : goal.returns-in_err-target-clause-tape
returns-in_err-target-clause-tape g c =
    let is = err_from_is_err_and c.from_residual-in_err-target.result c.from_residual-in_err-target.ensures.1 in
    rw (is.1, is.2, c.requires) (none _ _ (silent _ _ _ _))
