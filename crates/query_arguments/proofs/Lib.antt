mod ArrayLemmas
pub mod IdLemmas
mod ReadingLemmas
