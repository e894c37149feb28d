-- Parts of requests as the code has them: private clauses and proofs alone speak of it.
pub mod Forms
pub mod Pairs
