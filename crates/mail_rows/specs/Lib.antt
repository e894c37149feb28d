pub mod NumberedRows
pub mod Remaining
pub mod Joining
pub mod Taking
pub mod RowTouches
pub mod LookUps
pub mod reading
