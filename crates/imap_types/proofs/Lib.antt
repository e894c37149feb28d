pub mod EachLemmas
pub mod CutLemmas
pub mod CodeLemmas
pub mod SetLemmas
pub mod KeptLemmas
