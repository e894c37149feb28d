-- What private clauses and proofs alone speak of: an item's plan.
pub mod Running
