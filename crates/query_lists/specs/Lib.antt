-- Lists that queries answer, without what is in them: Filters says which rows are taken, Ordered which list it is, Windows which part is asked,
-- Splices what a client does to it.
pub mod Filters
pub mod Ordered
pub mod Groups
pub mod Windows
pub mod Splices
