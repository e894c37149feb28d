-- How spellings are read: private clauses and proofs alone speak of it, here and in the crates above.
pub mod CodeReading
