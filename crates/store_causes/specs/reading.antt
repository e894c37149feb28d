-- What private clauses and proofs alone speak of.
pub mod Noting
pub mod Following
pub mod Rounding
