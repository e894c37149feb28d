pub mod Compared
pub mod Cuts
pub mod PathParts
pub mod Patterns
pub mod Walks
pub mod FoundPaths
pub mod Routed
