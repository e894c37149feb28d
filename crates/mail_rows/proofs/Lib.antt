pub mod VisibleLemmas
pub mod RowLemmas
pub mod PassLemmas
pub mod IndexLemmas
pub mod OneTake
pub mod Exact
pub mod ThreadLaw
pub mod TakingLemmas
pub mod ArrivalLemmas
pub mod TouchLemmas
pub mod FollowLemmas
pub mod LookLemmas
mod LoopLemmas
pub mod MailLaws
mod UpdateLemmas
