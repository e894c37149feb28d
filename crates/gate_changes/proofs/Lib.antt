mod Doing
mod Course
mod Taking
mod Seeking
mod Settling
pub mod Ends
pub mod Through
mod Telling
pub mod Keeping
mod Replying
pub mod Epochs
pub mod Blaming
