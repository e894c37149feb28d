pub mod CleanTexts
pub mod AddressNames
pub mod LooseNames
pub mod PartNames
