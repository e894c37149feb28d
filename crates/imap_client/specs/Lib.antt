-- Plans says how what is asked in order is followed; Connecting, Rounds and Bodies are such plans. Sent, Decided, WholeRounds and WholeFetches
-- are for laws.
pub mod Capabilities
pub mod LinkLife
pub mod Unread
pub mod Calls
pub mod Refusals
pub mod Plans
pub mod Obeying
pub mod Sent
pub mod Decided
pub mod Connecting
pub mod Connected
pub mod Selecting
pub mod Rounds
pub mod WholeRounds
pub mod Bodies
pub mod WholeFetches
pub mod reading
