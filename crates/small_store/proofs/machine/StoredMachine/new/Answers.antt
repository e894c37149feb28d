use Rattle.std.proofs.Common.{subst, sym}
use Rattle.honest_store.specs.StoreMail.{StoreMail}
use Rattle.small_responses.specs.Tellable.{IsTellableMail}
use Rattle.small_store.proofs.Telling.{first_tellable}
use Rattle.small_store.proofs.machine.StoredMachine.new.Goals as goal

pub returns-clause-tellable : goal.returns-clause-tellable
returns-clause-tellable c = subst (λ (m : StoreMail). IsTellableMail m) (sym c.in_ok-mail.ensures) first_tellable
