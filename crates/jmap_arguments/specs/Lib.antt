-- What methods share: errors, arguments, ids, states, and the frame of a /get.
pub mod Outcome
pub mod Errors
pub mod State
pub mod Ids
pub mod Arguments
pub mod Gets
pub mod Echo
pub mod reading
