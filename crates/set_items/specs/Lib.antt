-- Items has what an item asks and what the answers make of it; Ends how an item and with it a call ends, and Causes why; Talks is an item in a link life.
-- Commands is for laws.
pub mod Items
pub mod Commands
pub mod Ends
pub mod Causes
pub mod Talks
pub mod reading
