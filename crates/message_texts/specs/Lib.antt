pub mod DateTexts
pub mod AddressTexts
pub mod Parts
pub mod Fields
pub mod Messages
