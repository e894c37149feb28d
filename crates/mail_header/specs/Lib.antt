pub mod Lines
pub mod WhiteEnd
pub mod Fields
pub mod RawForms
pub mod Bracketed
pub mod reading
