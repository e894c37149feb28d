use Rattle.std.proofs.Common.{arith}
use Rattle.std.specs.Map.{keys_of}
use Rattle.mail_state.proofs.KeyLemmas.{all_small, no_keys, none_small}
use Rattle.mail_state.proofs.state.keys_are_small.Goals as goal

pub returns-in-Some : goal.returns-in-Some
returns-in-Some g c = all_small c.in-Some.number.now (keys_of c.args.rows.now.entries) (omega arith) c.in-Some.ensures.all_up_to

pub returns-in-None : goal.returns-in-None
returns-in-None g c = none_small (keys_of c.args.rows.now.entries) (no_keys c.args.rows.now.entries (λ some. cc (c.in-None.ensures.variant.1 some)))
