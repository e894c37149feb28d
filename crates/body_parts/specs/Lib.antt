-- The body properties of an Email. BodyProperties says what each of them is; the rest says of what they are made.
pub mod Messages
pub mod Steps
pub mod Leaves
pub mod Languages
pub mod PartObjects
pub mod Texts
pub mod Cuts
pub mod Previews
pub mod BodyValues
pub mod BodyProperties
pub mod reading
