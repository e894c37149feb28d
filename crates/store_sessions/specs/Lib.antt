-- Turns says what octets come to that a client gave, Sessions what one client is told, Clients what clients one after another are.
-- Answered says the same of one client over all its octets at once.
-- reading/ is for clauses of this crate's own functions.
pub mod Turns
pub mod Sessions
pub mod Clients
pub mod Answered
pub mod reading
