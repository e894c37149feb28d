-- What the code has, as definitions have it: clauses and proofs alone speak of it.
pub mod Keys
pub mod Asked
