-- Checks is what an item of each method has to pass, and what is drawn for it.
pub mod Checks
pub mod reading
