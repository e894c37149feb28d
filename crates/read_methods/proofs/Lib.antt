mod ChangeLemmas
mod FindLemmas
mod ObjectLemmas
mod OneAnswer
mod OverHistory
mod WholeLemmas
