pub mod PhraseLemmas
pub mod PartLemmas
pub mod OpenLemmas
