use Rattle.header_tokens.proofs.LexemeLemmas.{row_told}
use Rattle.header_tokens.proofs.lexemes.is_row.Goals as goal

pub returns : goal.returns
returns c = row_told c.args.alphabet c.args.text.now c.behind_tokens.result.now c.is_empty.result c.behind_tokens.ensures c.is_empty.ensures
