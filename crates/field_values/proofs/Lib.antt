pub mod MomentLemmas
pub mod FormLemmas
pub mod PropertyLemmas
pub mod IndexLemmas
