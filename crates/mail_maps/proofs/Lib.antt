pub mod InOrder
pub mod Ordered
pub mod KeySets
pub mod SameKeywords
pub mod GroupLemmas
pub mod ThreadLemmas
pub mod FrontLemmas
pub mod RoleLemmas
pub mod MemberLemmas
mod KeptKeys
pub mod Tallied
mod ParentLaws
mod OnceLaws
pub mod IdLemmas
