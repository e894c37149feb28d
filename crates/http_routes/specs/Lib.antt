-- Routing says which route a request has, by Paths and Accept; reading is for private clauses and proofs.
pub mod Accept
pub mod Paths
pub mod Routing
pub mod reading
