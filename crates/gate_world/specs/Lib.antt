pub mod Causes
pub mod Heard
pub mod Octets
pub mod Pieces
pub mod Read
pub mod Sending
pub mod Tape
pub mod Unread
