-- Orders of rows. Emails and Mailboxes say which of two comes first.
pub mod Directions
pub mod Texts
pub mod Emails
pub mod Mailboxes
pub mod Entries
pub mod Listed
pub mod reading
