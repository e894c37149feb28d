pub mod Lines
pub mod Identifiers
pub mod Mailboxes
pub mod MediaTypes
pub mod Drafts
