pub mod BracketSteps
pub mod BracketContents
pub mod BracketReading
pub mod OneToken
pub mod LeadingLemmas
pub mod LexemeLemmas
pub mod ClosingLemmas
