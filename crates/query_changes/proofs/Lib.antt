mod AnswerLemmas
mod OneAnswer
mod ReplyLemmas
mod RowLemmas
mod SplicingLemmas
mod ToldLemmas
mod TouchedLemmas
