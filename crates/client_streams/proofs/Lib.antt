pub mod Buffered
pub mod FlushedOn
pub mod GoneOn
pub mod Turning
