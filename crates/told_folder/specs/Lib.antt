-- What the responses of a command tell of a folder stands in ToldBy. Places and FolderTelling are for the steps of the code.
pub mod Keyed
pub mod Places
pub mod Folders
pub mod Select
pub mod Tell
pub mod ToldBy
pub mod Index
pub mod FolderTelling
pub mod reading
