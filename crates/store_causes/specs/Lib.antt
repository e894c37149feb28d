-- Causes says why a store can't be used; Beginnings what is told of octets that can't be read; Checks what a check asks, and what is found; Reads and Reasons are for laws.
pub mod Causes
pub mod Beginnings
pub mod Checks
pub mod Reads
pub mod Reasons
pub mod reading
