-- What the code has, as definitions have it: clauses and proofs alone speak of it.
pub mod Creating
pub mod Items
pub mod Ordering
pub mod Waiting
