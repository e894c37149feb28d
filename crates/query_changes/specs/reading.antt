-- How what was touched is found in what is kept: private clauses and proofs alone speak of it.
pub mod Found
