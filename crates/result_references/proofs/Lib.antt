pub mod Limits
pub mod Paths
pub mod Reached
pub mod Segments
pub mod TextLengths
