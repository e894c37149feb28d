-- What the walk over the kept touches gathers: private clauses and proofs alone speak of it.
pub mod Seen
pub mod Parts
pub mod Answer
