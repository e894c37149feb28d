-- Written is for the code; the others show that texts spell responses, each after those that it uses.
pub mod Written
pub mod Numerals
pub mod Marks
pub mod SetTexts
pub mod CodeTexts
pub mod DateTexts
pub mod ItemTexts
pub mod CountTexts
pub mod ResponseSpelling
