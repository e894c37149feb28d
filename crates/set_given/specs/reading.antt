-- What the code has, as definitions have it: clauses and proofs speak of it.
pub mod Givens
pub mod Makings
