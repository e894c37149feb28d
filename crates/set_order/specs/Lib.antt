-- Creations has what creation ids stand for, Ordered the items of a call in order; reading is for the code.
pub mod Creations
pub mod Ordered
pub mod reading
