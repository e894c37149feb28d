-- Given has what items are checked over and what ids name there; reading is for the code.
pub mod Given
pub mod reading
