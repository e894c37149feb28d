use Rattle.std.proofs.Common.{◌∙◌}
use Rattle.email_checks.proofs.SetLemmas.{held_keys}
use Rattle.email_checks.proofs.keywords.is_held.Goals as goal

pub returns : goal.returns
returns c = c.contains.ensures ∙ held_keys c.args.keyword.now c.args.keywords.now.keys
