pub mod IdLemmas
pub mod PieceLemmas
pub mod ParameterLemmas
pub mod EnclosedLemmas
pub mod OneHeader
pub mod MadeHeader
