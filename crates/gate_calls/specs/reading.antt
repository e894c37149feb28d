-- What the parts of answering calls come to: private clauses and proofs alone speak of it.
pub mod Responding
