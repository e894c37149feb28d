mod Fronts
mod Responses
pub mod Verdicts
mod Pacing
mod Needing
mod Conversing
mod Refutations
