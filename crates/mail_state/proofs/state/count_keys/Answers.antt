use Rattle.std.proofs.Common.{◌∙◌, sym}
use Rattle.std.proofs.lemmas.Map.Entries.{length-keys_of}
use Rattle.mail_state.proofs.state.count_keys.Goals as goal

pub returns-clause-count : goal.returns-clause-count
returns-clause-count g c = c.len.ensures.len ∙ sym (length-keys_of c.args.rows.now.entries)
