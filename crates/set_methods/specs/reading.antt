-- What the code's checks stand for.
pub mod Choosing
