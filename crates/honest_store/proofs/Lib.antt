pub mod Used
pub mod Told
pub mod Answered
pub mod SampleMail
pub mod Admitted
pub mod Refused
