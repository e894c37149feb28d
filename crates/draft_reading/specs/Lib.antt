pub mod Values
pub mod Mailboxes
pub mod Parts
pub mod Names
pub mod Properties
pub mod Readings
pub mod reading
