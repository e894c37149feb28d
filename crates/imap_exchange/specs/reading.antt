-- What the steps of an exchange add: octets that are read, a piece that is sent, a response that came.
pub mod Filling
pub mod Sending
pub mod Turns
