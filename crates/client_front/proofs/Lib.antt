pub mod Finished
pub mod Handed
pub mod KeptPlaces
pub mod Late
pub mod Offered
pub mod Places
pub mod Served
