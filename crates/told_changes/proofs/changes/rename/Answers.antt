use Rattle.told_changes.proofs.Steps.{steps_none}
use Rattle.told_changes.proofs.Storing.{rename_steps}
use Rattle.told_changes.proofs.changes.rename.Goals as goal

pub returns-in_err-rename-clause-steps : goal.returns-in_err-rename-clause-steps
returns-in_err-rename-clause-steps c = steps_none _ _ c.each_is_mail.ensures c.in_err-rename.ensures.err

pub returns-clause-steps : goal.returns-clause-steps
returns-clause-steps c =
    rename_steps _ _ c.args.from.now c.args.to.now c.each_is_mail.ensures c.in_ok-rename.ensures.ok c.rename.ensures.inbox c.in_ok-rename.ensures.counted
