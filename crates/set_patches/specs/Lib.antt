-- Patches has what a patch points at, Values when values are one; reading is for the code.
pub mod Patches
pub mod Values
pub mod reading
