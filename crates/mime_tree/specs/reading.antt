-- What private clauses and proofs read: lines as functions, lists that grow, texts that are shared.
pub mod LineReading
pub mod ListBuilding
pub mod Shared
pub mod Bounds
