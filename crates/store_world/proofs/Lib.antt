pub mod Giving
pub mod Replying
pub mod StoreBehindLink
pub mod Writing
