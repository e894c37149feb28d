-- Each module after those that it uses: Doing has what is done for what is asked, RequestWork all of a request, Segment one client, Run clients one after another, Complete what they are owed, Histories what
-- stays from one to another, KeptBodies which bodies fetches told.
pub mod Front
pub mod Requests
pub mod Answers
pub mod Doing
pub mod RequestWork
pub mod GateState
pub mod Segment
pub mod Run
pub mod Gates
pub mod Complete
pub mod Histories
pub mod KeptBodies
pub mod reading
