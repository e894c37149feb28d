-- What the code has, as definitions have it: clauses and proofs alone speak of it.
pub mod Items
pub mod Types
pub mod Listing
pub mod Whole
