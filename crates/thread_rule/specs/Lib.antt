pub mod Subject
pub mod BaseSubject
pub mod Ids
pub mod Threads
pub mod reading
