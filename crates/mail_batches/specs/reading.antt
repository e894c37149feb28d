-- How the octets are read from left to right: private clauses and proofs alone speak of it.
pub mod Reading
pub mod Stepping
pub mod Testing
pub mod Adding
