pub mod AddressLemmas
pub mod DateLemmas
pub mod FieldLemmas
pub mod PartLemmas
