pub mod MailboxReading
