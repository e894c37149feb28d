pub mod Appending
pub mod Changing
pub mod EmptyLines
pub mod FirstCodes
pub mod Keeping
pub mod Moving
pub mod Passing
pub mod Reading
mod Rows
pub mod Steps
pub mod Storing
