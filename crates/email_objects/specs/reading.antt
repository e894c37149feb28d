-- What private clauses read: what the code knows of an Email, and the members that it tells.
pub mod Indexing
pub mod Views
pub mod ToldMembers
