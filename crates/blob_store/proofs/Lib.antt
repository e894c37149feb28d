pub mod KeptLemmas
pub mod NewestLemmas
