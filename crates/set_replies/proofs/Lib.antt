mod AnswerLemmas
mod ListLemmas
mod RowLemmas
mod StateLemmas
mod WholeLemmas
