pub mod Tokens
pub mod TokenView
pub mod Lexemes
pub mod Kinds
pub mod Words
pub mod Closings
pub mod reading
