-- Items says how one change of the mail is spelled, Rules what it may say, Tables and Steps what it makes of mail; Batches says to which
-- mail a batch leads, Between which batch leads from one mail to another, and Reads what reading items gives, of tables that are Stored.
pub mod Items
pub mod Rules
pub mod Tables
pub mod Steps
pub mod Batches
pub mod Between
pub mod Reads
pub mod Stored
pub mod reading
