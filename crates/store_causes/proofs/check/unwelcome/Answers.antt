use Rattle.std.proofs.Common.{subst, Option, Err}
use Rattle.std.proofs.lemmas.Result.{err_from_is_err_and}
use Rattle.store_causes.specs.declared.cause.StoreCause.{StoreCause}
use Rattle.store_causes.specs.reading.Following.{GreetingFinds}
use Rattle.store_causes.proofs.Telling.{greeting_wants}
use Rattle.store_causes.proofs.check.unwelcome.Goals as goal

pub returns-in_err-beginning : goal.returns-in_err-beginning
returns-in_err-beginning c =
    let ends = err_from_is_err_and c.from_residual.result c.from_residual.ensures.1 in
    rw (ends.1, ends.2) (subst (λ (k : Option StoreCause). GreetingFinds c.args.password.now k c.args.unread.now (Err c.in_err-beginning.field-0.0)) c.unanswered-cause.ensures
    (greeting_wants c.args.password.now c.unanswered-cause.result c.args.unread.now c.in_err-beginning.field-0.0 c.in_err-beginning.ensures.wants))
