-- How the code reads search texts: private clauses and proofs alone speak of it.
pub mod Parts
pub mod OpenMarks
