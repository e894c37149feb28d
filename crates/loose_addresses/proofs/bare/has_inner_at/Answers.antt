use Rattle.loose_addresses.proofs.BareLemmas.{inner_told}
use Rattle.loose_addresses.proofs.bare.has_inner_at.Goals as goal

pub returns-in-Some : goal.returns-in-Some
returns-in-Some c = inner_told c.args.text.now c.in-Some.rest.now c.cut.result.1.now _ c.in-Some.ensures c.cut.ensures.back
