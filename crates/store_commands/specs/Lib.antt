-- Requests says which octets are a command, Answers what octets are that a client sends. Written says which commands are read
-- back. reading/ has how commands are read, for clauses of this crate's own functions: who believes the others may skip it.
pub mod Requests
pub mod Answers
pub mod Written
pub mod reading
