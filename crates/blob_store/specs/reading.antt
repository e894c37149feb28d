-- What the code keeps: private clauses and proofs alone speak of it.
pub mod Kept
