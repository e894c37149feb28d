-- What the store answers stands in small_answers. reading/ is for private clauses and proofs.
pub mod reading
