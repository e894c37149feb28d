-- How commands are put together: private clauses and proofs alone speak of it.
pub mod Written
