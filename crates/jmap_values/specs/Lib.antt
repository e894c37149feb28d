pub mod Dates
pub mod Keywords
