use Rattle.header_tokens.proofs.LeadingLemmas.{one_tokens, one_leading_lexemes}
use Rattle.header_tokens.proofs.laws.one_row_of_tokens.Goals as goal

pub returns-clause-tokens : goal.returns-clause-tokens
returns-clause-tokens c = λ a one other t g h. one_tokens a one other t g h

pub returns-clause-lexemes : goal.returns-clause-lexemes
returns-clause-lexemes c = λ a one other t g h. one_leading_lexemes a one other t g h
