-- Which devices of the host the built program is given, by its words.
pub mod Clientele
pub mod Devices
