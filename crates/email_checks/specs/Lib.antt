-- Emails has the checks of the items of Email/set and what each is to do; Keywords, Asked and Steps have the parts of it; reading is for the code.
pub mod Keywords
pub mod Asked
pub mod Steps
pub mod Emails
pub mod reading
