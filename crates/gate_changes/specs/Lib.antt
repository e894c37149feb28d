-- Items is the items of a call over what the machine knows, Importing those of an Email/import, Changing either with the commit, ToldBodies the
-- bodies that are told for it, and Answering a whole call of a changing method.
pub mod Items
pub mod Importing
pub mod Changing
pub mod ToldBodies
pub mod Answering
pub mod reading
