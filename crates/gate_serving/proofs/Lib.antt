mod Receiving
mod Asked
mod Meant
pub mod Answering
mod Gates
mod Ids
mod Running
mod Doing
mod Obeyed
mod Needs
mod Going
mod OneAnswer
mod Knowing
mod Kept
mod ServedAnswers
pub mod Told
mod Made
mod Lent
mod Begun
