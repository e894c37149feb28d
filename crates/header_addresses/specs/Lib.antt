pub mod Mailboxes
pub mod AddressLists
pub mod Names
pub mod Parts
pub mod reading
