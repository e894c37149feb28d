pub mod Bodies
pub mod Capabilities
pub mod Ids
pub mod Whole
