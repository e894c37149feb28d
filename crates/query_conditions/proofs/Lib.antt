pub mod ThreadLemmas
pub mod WordLemmas
