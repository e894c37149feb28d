-- How the code reads: what proofs, private clauses and the clauses of single steps use.
pub mod DateReading
