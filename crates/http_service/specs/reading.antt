-- What only private clauses and proofs need.
pub mod Values
pub mod LineEnds
pub mod Parses
pub mod Steps
pub mod Targets
