-- queryChanges of Emails and of Mailboxes. Changes has what is answered, Replies the same over a history, Splicing why a client may rely on it;
-- reading is for private clauses and proofs.
pub mod Changes
pub mod Replies
pub mod Splicing
pub mod reading
