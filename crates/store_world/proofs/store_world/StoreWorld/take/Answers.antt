use Rattle.std.proofs.Common.{refl}
use Rattle.std.proofs.lemmas.Result.{err_from_is_err_and, on_ok_weaker}
use Rattle.store_world.proofs.Replying.{answers_none}
use Rattle.store_world.proofs.store_world.StoreWorld.take.Goals as goal

pub returns-in_err-add-clause-err : goal.returns-in_err-add-clause-err
returns-in_err-add-clause-err c =
    let is = err_from_is_err_and c.from_residual.result c.from_residual.ensures.1 in rw (is.1, ← c.self.view_is) (answers_none _ _, refl)

pub returns-clause-ok : goal.returns-clause-ok
returns-clause-ok c =
    rw (← c.self.view_is)
    (on_ok_weaker c.reply.result
    (λ came. (came.0, c.reply.new.unread, c.reply.new.store, rw (← c.in_ok-add.ensures.ok) came.1, rw came.2 refl)) c.reply.ensures.ok)
