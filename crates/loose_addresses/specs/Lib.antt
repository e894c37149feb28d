pub mod Lumps
pub mod Torn
pub mod Angles
pub mod LooseLists
pub mod LooseForms
pub mod reading
