-- Conditions of filters. Records, ThreadKeywords and Mailboxes say when a row is as a condition says.
pub mod Words
pub mod Records
pub mod Entries
pub mod ThreadKeywords
pub mod Mailboxes
