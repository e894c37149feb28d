-- How parts are read: each function takes the octets from its place on, and answers a value and what stands behind it.
pub mod Steps
pub mod Lexemes
pub mod FixedTexts
pub mod Strings
