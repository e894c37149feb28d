pub mod Found
pub mod Fields
pub mod Again
pub mod Once
pub mod Next
pub mod Texts
pub mod Spelled
pub mod ReadLemmas
pub mod Between
pub mod SpelledItems
mod RuleLemmas
pub mod TableLemmas
mod ItemSteps
mod AddingLemmas
pub mod MailLemmas
pub mod Differences
mod WriteLemmas
