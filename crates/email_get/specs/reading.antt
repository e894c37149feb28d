-- What the code gathers on its way: private clauses and proofs alone speak of it.
pub mod Gathered
