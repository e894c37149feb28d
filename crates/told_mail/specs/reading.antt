-- How a mirror is kept, and how far loops over its folders have come: private clauses and proofs alone speak of it.
pub mod Index
pub mod Lines
pub mod Names
pub mod Numbers
pub mod Rises
pub mod Renaming
