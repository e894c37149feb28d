-- Each module after those that it uses: Spells says which octets are a response, Commands which are a command. reading/ has how codes are read, for clauses of
-- imap_grammar.
pub mod Octets
pub mod Texts
pub mod Numbers
pub mod UidSets
pub mod Codes
pub mod Lines
pub mod Strings
pub mod Values
pub mod ItemNames
pub mod Dates
pub mod DateTimes
pub mod Items
pub mod Folders
pub mod Free
pub mod Spells
pub mod Commands
pub mod reading
