pub mod MomentText
pub mod Forms
pub mod UtcDates
pub mod HeaderProperties
pub mod reading
