pub mod LineLemmas
pub mod BaseLemmas
pub mod CutLemmas
pub mod NameLemmas
pub mod IdLemmas
pub mod SubjectLemmas
pub mod OutlineLemmas
