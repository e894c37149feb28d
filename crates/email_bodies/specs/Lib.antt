-- Keeping has which bodies are kept, Asking how bodies are asked of a source.
pub mod Keeping
pub mod Asking
