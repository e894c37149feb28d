-- What the code reads on its way: private clauses and proofs alone speak of it.
pub mod Addresses
pub mod Views
pub mod Uploads
