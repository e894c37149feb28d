-- Rows as the code sorts them: private clauses and proofs alone speak of it.
pub mod Keys
pub mod Rows
pub mod PropertyKeys
pub mod Joined
