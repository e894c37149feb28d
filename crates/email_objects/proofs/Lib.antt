pub mod OneObject
pub mod WholeLemmas
