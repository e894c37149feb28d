pub mod Cuts
pub mod Sequence
pub mod Octets
pub mod LineEnds
