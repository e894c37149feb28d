-- Sent is what the items of Email/set send, by what they ask.
pub mod Sent
