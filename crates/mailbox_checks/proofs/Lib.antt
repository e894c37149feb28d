pub mod EmailLemmas
pub mod ServedLemmas
pub mod UnchangedLemmas
