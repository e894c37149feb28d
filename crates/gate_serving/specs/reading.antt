-- What the parts of answering a client add: private clauses and proofs alone speak of it.
pub mod Askings
pub mod Texts
pub mod Making
pub mod Replying
