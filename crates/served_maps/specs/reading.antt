-- Single touches of a step: private clauses and proofs alone speak of it.
pub mod Steps
pub mod AmongSteps
