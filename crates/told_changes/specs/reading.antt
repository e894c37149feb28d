-- How far telling has come: private clauses and proofs alone speak of it.
pub mod Steps
