use Rattle.std.specs.BTreeMap.{keys}
use Rattle.told_mail.proofs.NameLemmas.{apart_sorted}
use Rattle.told_mail.proofs.new_names.add_names.Goals as goal

pub returns-clause-apart : goal.returns-clause-apart
returns-clause-apart c = apart_sorted (keys c.args.lines.now) c.keys-name-items.ensures.ordered
