-- What the code's call stands for, and what it comes to.
pub mod Asking
pub mod Imports
pub mod Answers
