pub mod ContentIds
pub mod Pieces
pub mod Parameters
pub mod ContentTypes
pub mod ExtendedValues
pub mod Dispositions
pub mod PartHeaders
pub mod reading
