-- How far the writing of items has come: private clauses and proofs alone speak of it.
pub mod Items
