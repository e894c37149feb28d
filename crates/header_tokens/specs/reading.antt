-- How the code reads: what proofs, private clauses and the clauses of single steps use.
pub mod TokenReading
pub mod LexemeReading
pub mod ClosingCounts
pub mod ClosingSteps
