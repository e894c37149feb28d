-- What is done to the small store's mail stands in Changes, and its limits in Limits; what it answers in Answers, when it refuses in Causes, and what
-- its owner does in OwnersCalls. What holds of its mail at every moment, and what it may be asked, is in SmallMail.
pub mod Changes
pub mod Limits
pub mod Causes
pub mod ToldResponses
pub mod Answers
pub mod OwnersCalls
pub mod SmallMail
