pub mod MemberLemmas
pub mod ClashLemmas
pub mod FirstLemmas
pub mod SiblingLemmas
pub mod ServedLemmas
