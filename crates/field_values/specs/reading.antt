-- What private clauses and proofs read: the index of fields, and what a loop over fields has gathered.
pub mod FieldIndex
pub mod Gathering
