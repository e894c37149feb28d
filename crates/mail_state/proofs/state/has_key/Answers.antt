use Rattle.std.proofs.Common.{◌∙◌}
use Rattle.mail_state.proofs.KeyLemmas.{has_key}
use Rattle.mail_state.proofs.state.has_key.Goals as goal

pub returns : goal.returns
returns g c = c.contains_key.ensures ∙ has_key c.args.rows.now.entries c.args.number
