pub mod Draining
pub mod Flushing
pub mod Kept
pub mod Leaving
pub mod Lingering
pub mod Patience
pub mod Sending
