pub mod GetLemmas
pub mod HexReading
pub mod HexText
pub mod IdLemmas
pub mod OnceLemmas
pub mod PlainReading
pub mod StateParts
