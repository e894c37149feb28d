-- By name. Task says which words are a task; Lent and Reading are for private clauses.
pub mod Connections
pub mod Options
pub mod Pages
pub mod Rules
pub mod Task
pub mod reading
