-- Program says what a run of the program is, Check what the report on a store is, Complete what its clients are owed, Appending what it sends for creations and imports, Checking what a store takes that is checked, ReadWords what words were read as.
pub mod Show
pub mod Explain
pub mod Check
pub mod Program
pub mod Complete
pub mod Appending
pub mod Checking
pub mod ReadWords
