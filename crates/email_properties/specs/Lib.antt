-- What an Email/get or an Email/parse asks of each Email. Wanted says what its arguments mean; HeaderProperties has the grammar of header properties.
pub mod HeaderAsked
pub mod HeaderForms
pub mod HeaderProperties
pub mod EmailProperties
pub mod PartProperties
pub mod Properties
pub mod Kinds
pub mod Wanted
