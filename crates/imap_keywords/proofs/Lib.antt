pub mod Classes
pub mod KeyLemmas
pub mod Texts
