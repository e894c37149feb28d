-- Arguments has what a call asks; reading is for the code.
pub mod Arguments
pub mod reading
