pub mod ItemLemmas
pub mod AddressLemmas
pub mod UploadLemmas
pub mod PartLemmas
pub mod PropertyLemmas
pub mod FirstLemmas
pub mod OneLemmas
pub mod ReadingLemmas
