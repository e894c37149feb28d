-- Asked is what an import asks; Imports has the checks before its octets are sought, and what is kept of it; Messages is what its octets come to, and its
-- APPEND; reading is for the code.
pub mod Asked
pub mod Imports
pub mod Messages
pub mod reading
