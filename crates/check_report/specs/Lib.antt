-- Findings says what may be told of a check; Lines and CauseLines which lines that makes.
pub mod Shown
pub mod Findings
pub mod CauseLines
pub mod Lines
