pub mod PieceLemmas
pub mod DateLemmas
