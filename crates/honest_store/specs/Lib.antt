-- What a store's mail is stands in StoreMail and WellFormed, what others may do to it in Others, and what an honest answer is in Honest.
pub mod StoreMail
pub mod Attributes
pub mod Headers
pub mod WellFormed
pub mod MessageChanges
pub mod FolderChanges
pub mod Responses
pub mod TrueResponses
pub mod Others
pub mod Sessions
pub mod Listing
pub mod Selecting
pub mod Fetching
pub mod MessageCommands
pub mod Honest
pub mod Uses
