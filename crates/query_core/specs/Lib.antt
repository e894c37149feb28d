-- Queries of Emails and Mailboxes. Lists says which list is asked, Answers what is answered.
pub mod Headers
pub mod Lists
pub mod Answers
pub mod reading
