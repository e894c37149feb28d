use Rattle.std.proofs.Common.{drop}
use Rattle.loose_addresses.proofs.TornLemmas.{unit_lump, unit_separator}
use Rattle.loose_addresses.proofs.torn.unit_len.Goals as goal

pub returns-in-None : goal.returns-in-None
returns-in-None c = unit_separator (drop c.args.at c.args.text.now) c.in-None.ensures

pub returns-in-Some : goal.returns-in-Some
returns-in-Some c = unit_lump c.in-Some.len (drop c.args.at c.args.text.now) c.in-Some.ensures
