use Rattle.std.proofs.Common.{refl}
use Rattle.told_changes.proofs.Steps.{steps_none}
use Rattle.told_changes.proofs.moves.tell_landed.Goals as goal

pub returns-in-None-clause-steps : goal.returns-in-None-clause-steps
returns-in-None-clause-steps c = steps_none _ _ c.each_is_mail.ensures refl
