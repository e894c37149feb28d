-- Properties has the values that a Mailbox/set may give, Steps what is sent, Create, Update and Destroy the checks of items. reading is for the code.
pub mod Properties
pub mod Steps
pub mod Create
pub mod Update
pub mod Destroy
pub mod reading
