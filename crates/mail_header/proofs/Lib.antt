pub mod LineLemmas
pub mod TextLemmas
pub mod FieldLemmas
pub mod BracketLemmas
