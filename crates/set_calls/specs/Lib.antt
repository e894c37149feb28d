-- Calls is the items of a call in order and what each comes to; Promises is what laws say of them.
pub mod Calls
pub mod Promises
pub mod reading
