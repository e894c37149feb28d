use Rattle.std.proofs.Common.{arith}
use Rattle.std.proofs.lemmas.Str.Pattern.{strip_prefix_char}
use Rattle.result_references.proofs.Paths.{after_first-from}
use Rattle.set_order.proofs.creations.creation_in.Goals as goal

pub returns : goal.returns
returns c = after_first-from 35 c.args.text.now c.strip_prefix.result (strip_prefix_char 35 c.args.text.now c.strip_prefix.result c.strip_prefix.ensures.cases (omega arith))
