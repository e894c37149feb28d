pub mod Lengths
pub mod SpanLemmas
pub mod FlagLemmas
pub mod StringLemmas
pub mod Cuts
pub mod SetReadings
pub mod NameReadings
pub mod DateLemmas
