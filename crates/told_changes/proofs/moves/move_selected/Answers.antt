use Rattle.std.proofs.Common.{refl}
use Rattle.told_changes.proofs.Steps.{steps_none}
use Rattle.told_changes.proofs.moves.move_selected.Goals as goal

pub returns-in_default-clause-steps : goal.returns-in_default-clause-steps
returns-in_default-clause-steps c = steps_none _ _ c.each_is_mail.ensures refl
