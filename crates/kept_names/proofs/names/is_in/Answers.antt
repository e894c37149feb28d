use Rattle.std.proofs.Common.{◌∙◌}
use Rattle.kept_names.proofs.NameSets.{any_found}
use Rattle.kept_names.proofs.names.is_in.Goals as goal

pub returns : goal.returns
returns c = c.contains.ensures ∙ any_found c.args.name.now c.args.set.now.keys
