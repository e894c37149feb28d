-- What the code keeps beside the Emails, and what its steps come to: private clauses and proofs alone speak of it.
pub mod Keys
pub mod Index
pub mod Stripping
pub mod Once
