pub mod AskLemmas
mod ShowingLemmas
mod LoopLemmas
pub mod Due
mod NumberLemmas
mod BlobLemmas
mod GetLemmas
mod ParseLemmas
mod OneBlob
mod OneAnswer
