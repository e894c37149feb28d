-- What the code's call stands for.
pub mod Calling
