-- Email objects. EmailObjects says what the objects of an Email/get and an Email/parse are; Facts and Properties say of what they are made.
pub mod Facts
pub mod Properties
pub mod EmailObjects
pub mod reading
