-- What an exchange adds to the tape, and why one isn't completed, stands in Answering; what its steps add stands in reading.
pub mod Begins
pub mod Received
pub mod Needed
pub mod Exchanges
pub mod Answering
pub mod Responses
pub mod reading
