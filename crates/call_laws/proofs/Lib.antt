pub mod Fit
mod Ends
mod Histories
mod SetCalls
pub mod Lives
