use Rattle.std.proofs.lemmas.Result.{err_from_is_err_and}
use Rattle.gate_world.proofs.Joins.{none}
use Rattle.imap_exchange.proofs.Conversing.{silent}
use Rattle.imap_exchange.proofs.exchange.send.Goals as goal

pub returns-in_err-pieces-clause-tape : goal.returns-in_err-pieces-clause-tape
returns-in_err-pieces-clause-tape g c =
    let is = err_from_is_err_and c.from_residual.result c.from_residual.ensures.1 in
    rw (is.1, is.2, c.requires.up, c.requires.none) (none _ _ (silent _ _ _ _))

pub returns-in_err-due-clause-tape : goal.returns-in_err-due-clause-tape
returns-in_err-due-clause-tape g c =
    let is = err_from_is_err_and c.from_residual-in_err-due.result c.from_residual-in_err-due.ensures.1 in
    rw (is.1, is.2, c.requires.up, c.requires.none) (none _ _ (silent _ _ _ _))
