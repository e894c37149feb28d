pub mod Unused
pub mod Due
pub mod Joins
