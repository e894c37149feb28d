-- Flags and attributes in kept form, and what commands make of them.
pub mod Changes
