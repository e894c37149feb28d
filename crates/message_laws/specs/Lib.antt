pub mod SafeTexts
pub mod Headers
pub mod ReadBack
