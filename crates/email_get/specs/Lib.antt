-- Asked has what comes of calls that ask bodies; Blobs the octets that a blob id names; EmailGet and EmailParse what the methods answer, one object
-- after another as Showing says.
pub mod Asked
pub mod Showing
pub mod Blobs
pub mod EmailGet
pub mod EmailParse
pub mod reading
