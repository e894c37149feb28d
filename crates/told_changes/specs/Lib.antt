-- Landings has where codes say that messages went, Headers the header of a message that is put there, Changes what changing commands tell; Told is
-- the whole.
pub mod Landings
pub mod Headers
pub mod Changes
pub mod Told
pub mod reading
