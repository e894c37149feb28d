-- What only private clauses and proofs need.
pub mod Table
pub mod Parts
pub mod Finding
