pub mod Stages
mod Owed
mod Coming
mod Unequal
mod Keeping
pub mod Going
pub mod Reading
pub mod Sources
pub mod ServedFolders
pub mod Asking
mod KeptBodies
mod Fetched
mod Lent
