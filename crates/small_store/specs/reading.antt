-- What the steps of the code give.
pub mod Fetches
pub mod Names
pub mod Steps
