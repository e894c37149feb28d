-- What loops over responses have gathered: private clauses and proofs alone speak of it.
pub mod Loops
pub mod Parts
