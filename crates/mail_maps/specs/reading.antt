-- What the code gathers on its way: private clauses and proofs alone speak of it.
pub mod Groups
pub mod Fronts
pub mod TakenRoles
pub mod Tallies
pub mod Sets
pub mod Compared
pub mod EndedIds
