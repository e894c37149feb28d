pub mod KeptNames
pub mod KeptOrder
pub mod NameSets
