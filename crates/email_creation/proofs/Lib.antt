pub mod NamedLemmas
pub mod CheckLemmas
pub mod DrawLemmas
pub mod LawLemmas
