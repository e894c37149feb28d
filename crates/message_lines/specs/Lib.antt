pub mod Folding
pub mod Words
pub mod Subjects
pub mod Names
pub mod Ids
pub mod Bodies
pub mod Outlines
