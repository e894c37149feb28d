pub mod Dates
pub mod reading
