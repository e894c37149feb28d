pub mod Telling
pub mod Stepping
pub mod Conversing
pub mod Serving
pub mod Answered
