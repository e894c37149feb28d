-- Digits as the code reads them: private clauses and proofs alone speak of it.
pub mod PlainDigits
