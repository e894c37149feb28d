-- How spellings are read back: private clauses and proofs alone speak of it.
pub mod FolderReading
pub mod Passing
pub mod ItemReading
pub mod Codes
pub mod Reading
