pub mod GroupLemmas
pub mod MemberLemmas
pub mod SpliceLemmas
