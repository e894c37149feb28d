pub mod MomentLemmas
pub mod GivenLemmas
