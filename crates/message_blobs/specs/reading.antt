-- How the code reads: private clauses and proofs alone speak of it.
pub mod NumberReading
pub mod ReadMessages
