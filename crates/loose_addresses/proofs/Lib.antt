pub mod ShapeLemmas
pub mod LumpLemmas
pub mod ElementLemmas
pub mod AngleLemmas
pub mod BareLemmas
pub mod LooseLemmas
pub mod OutsideLemmas
pub mod TornLemmas
