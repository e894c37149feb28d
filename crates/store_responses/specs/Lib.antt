-- The text of each response stands in ResponseTexts, and which responses may be sent in Sendable. reading/ is for private clauses and proofs.
pub mod ResponseTexts
pub mod Sendable
pub mod reading
