-- What the code has, as definitions have it: clauses and proofs speak of it.
pub mod Checked
pub mod Found
