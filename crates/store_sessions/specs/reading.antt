-- What was read, what a call of the front gives, and how far it went, for clauses of this crate's own functions.
pub mod Asked
pub mod Fills
pub mod Going
