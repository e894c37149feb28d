-- Asking says what a client asks, Responses what it is sent; reading is for private clauses and proofs.
pub mod Asking
pub mod Responses
pub mod reading
