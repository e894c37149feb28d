pub mod History
pub mod Sound
pub mod State
pub mod Following
pub mod LookUps
pub mod Telling
pub mod Laws
pub mod reading
