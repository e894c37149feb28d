pub mod Past
pub mod Among
pub mod reading
