pub mod CutLemmas
pub mod SequenceLemmas
pub mod LineEndLemmas
