-- Texts that are searched for. SearchTexts is their grammar, SearchWords what is asked by one.
pub mod SearchTexts
pub mod SearchWords
pub mod reading
