use Rattle.std.proofs.lemmas.Result.{err_from_is_err_and}
use Rattle.store_sessions.specs.Turns.{Undone}
use Rattle.store_sessions.proofs.Telling.{asks_tellable}
use Rattle.store_sessions.proofs.turn.take_turn.Goals as goal

pub returns-in_err-read-clause-err : goal.returns-in_err-read-clause-err
returns-in_err-read-clause-err g c =
    let is = err_from_is_err_and c.from_residual.result c.from_residual.ensures.1 in rw is.1 (Undone c.in_err-read.ensures)

pub turn_of-requires-clause-told : goal.turn_of-requires-clause-told
turn_of-requires-clause-told g c = asks_tellable c.args.unread.now c.in_ok-read.read c.in_ok-read.ensures c.read_may_be_told.ensures
