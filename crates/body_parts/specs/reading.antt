-- What private clauses and proofs read: texts before their line ends are looked at, leaves that are fetched or
-- referred to, messages that the code has read, steps that may not be taken.
pub mod Decoded
pub mod Fetching
pub mod LeafLists
pub mod OwnHeaders
pub mod Readings
pub mod StepsIf
