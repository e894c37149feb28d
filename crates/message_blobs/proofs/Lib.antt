pub mod NumberLemmas
pub mod IdLemmas
pub mod UploadLemmas
pub mod LeafLemmas
