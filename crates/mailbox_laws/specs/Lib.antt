-- Sent is what the items of Mailbox/set send, by what they ask.
pub mod Sent
