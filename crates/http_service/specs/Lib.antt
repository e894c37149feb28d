-- ReadHead and ReadBody say what reading a request adds to the tape, Responses what a response's head is; reading is for private clauses and proofs.
pub mod Errors
pub mod Responses
pub mod Refusals
pub mod Fields
pub mod Heads
pub mod Taking
pub mod ReadHead
pub mod Chunked
pub mod ReadChunked
pub mod ReadBody
pub mod reading
