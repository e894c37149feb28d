use Rattle.std.proofs.Common.{refl, sym}
use Rattle.told_changes.proofs.Reading.{told_other}
use Rattle.told_changes.proofs.Steps.{steps_none}
use Rattle.told_changes.proofs.telling.tell_as.Goals as goal

pub returns-in_default-clause-ok : goal.returns-in_default-clause-ok
returns-in_default-clause-ok c = sym (told_other c.args.mirror.now.mail c.args.exchange.now c.in_default.not-Ok)

pub returns-in_default-clause-steps : goal.returns-in_default-clause-steps
returns-in_default-clause-steps c = steps_none _ _ c.each_is_mail.ensures refl
