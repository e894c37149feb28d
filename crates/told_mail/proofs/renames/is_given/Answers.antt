use Rattle.std.proofs.Common.{◌∙◌}
use Rattle.told_mail.proofs.NameSets.{any_found}
use Rattle.told_mail.proofs.renames.is_given.Goals as goal

pub returns : goal.returns
returns c = c.contains.ensures ∙ any_found c.args.name.now c.args.given.now.keys
