-- What the code finds of Threads and of lists: private clauses and proofs alone speak of it.
pub mod ConditionsRead
pub mod Found
pub mod Joined
pub mod Kept
pub mod ListAnswers
pub mod Ordered
