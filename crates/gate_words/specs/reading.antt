-- How words are read one by one, what lent values are, and the commands of clap: private clauses and proofs alone speak of it.
pub mod Words
pub mod Lent
pub mod Commands
