use Rattle.std.proofs.Common.{arith}
use Rattle.std.proofs.lemmas.Str.Pattern.{split_parts}
use Rattle.gate_words.proofs.Cut.{cut-parts}
use Rattle.gate_words.proofs.option.cut.Goals as goal

pub returns : goal.returns
returns c = cut-parts c.args.word.now c.split_once.result (split_parts 61 c.args.word.now c.split_once.result c.split_once.ensures.cases (omega arith))
