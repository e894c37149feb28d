pub mod OrderLemmas
pub mod MemberLemmas
pub mod CheckLemmas
pub mod FindLemmas
pub mod LawLemmas
