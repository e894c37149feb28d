pub mod Chance
pub mod Dialing
pub mod Faults
pub mod Sessions
pub mod Streams
