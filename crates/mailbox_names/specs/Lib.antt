-- FitNames has which names a Mailbox can have, FullNames those of folders, Siblings what is under one parent, Renames what a RENAME gives. reading is for
-- the code.
pub mod FitNames
pub mod FullNames
pub mod Siblings
pub mod Renames
pub mod reading
