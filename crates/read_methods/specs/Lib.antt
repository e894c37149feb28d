-- Mailboxes and Threads have what /get answers of each, Changes what each /changes does, Copies why a client may rely on it, and Replies
-- all of them over a history; reading is for private clauses and proofs.
pub mod Mailboxes
pub mod Threads
pub mod Changes
pub mod Copies
pub mod Replies
pub mod reading
