-- Asked is what the properties of a creation ask besides its message; Creations has its checks in order; Appends is what it comes to once a moment and a
-- word are drawn; reading is for the code.
pub mod Asked
pub mod Creations
pub mod Appends
pub mod reading
