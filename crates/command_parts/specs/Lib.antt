-- Fields has the grammar of a command's parts. reading/ has how they are read, for clauses of the readers: who believes a crate above
-- may skip it.
pub mod Fields
pub mod reading
