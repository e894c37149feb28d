pub mod MediaLemmas
pub mod AskLemmas
