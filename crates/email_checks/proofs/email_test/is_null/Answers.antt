use Rattle.std.proofs.Common.{◌∙◌}
use Rattle.serde_json.specs.View.{view}
use Rattle.email_checks.proofs.ValueLemmas.{null_is}
use Rattle.email_checks.proofs.email_test.is_null.Goals as goal

pub returns : goal.returns
returns c = c.is_null.ensures ∙ null_is (view c.args.value.now)
