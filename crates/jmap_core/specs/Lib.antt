-- By name. Request says what a body asks, Problem, Response and Session what is answered.
pub mod CreatedIds
pub mod Problem
pub mod Request
pub mod Response
pub mod Session
pub mod reading
