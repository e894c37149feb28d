pub mod TokenRows
pub mod EmailAlone
pub mod MailboxTokens
pub mod NameReading
pub mod ListReading
pub mod Untorn
pub mod DraftRows
pub mod DraftMailboxes
