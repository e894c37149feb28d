use Rattle.std.proofs.Common.{◌∙◌}
use Rattle.serde_json.proofs.Views.{view-Object}
use Rattle.email_get.proofs.ParseLemmas.{object_there}
use Rattle.email_get.proofs.parsing.object_or_null.Goals as goal

pub returns-else-is_empty : goal.returns-else-is_empty
returns-else-is_empty c = view-Object c.args.members ∙ object_there c.args.members.entries (λ none. let t = c.is_empty.ensures.1 none in cc (t, c.if-is_empty.false))
