-- By name. References says what arguments with references stand for, Call what they refer to.
pub mod Call
pub mod References
pub mod reading
