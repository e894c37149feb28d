pub mod SameDrafts
pub mod OneThing
