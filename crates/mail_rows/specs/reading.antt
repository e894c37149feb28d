-- What the code keeps and gathers on its way: private clauses and proofs alone speak of it.
pub mod Indexes
pub mod RowPass
