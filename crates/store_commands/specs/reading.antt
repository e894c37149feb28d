-- How a command is read: each function takes the octets from its place on, and answers a value and what stands behind it.
pub mod Asked
pub mod Arguments
pub mod Commands
