-- Paths and references as the code has them: private clauses and proofs alone speak of it.
pub mod Counting
pub mod Reaching
pub mod Referring
