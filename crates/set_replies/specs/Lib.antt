-- States has the state that a call names, Refusals why items were not done, Emails what is said of Emails, Lists what each item came to, Replies the reply,
-- and Created the ids of what was created. Promises is for laws, reading for the code.
pub mod States
pub mod Refusals
pub mod Emails
pub mod Lists
pub mod Replies
pub mod Created
pub mod Promises
pub mod reading
